-- What the bodies need to know of the first types.
use Rattle.std.proofs.Common.{ℕ, ◌≡◌, ◌+◌, ◌<◌, sym, ap, ◌∙◌, List, [], ◌∷◌, ◌++◌, length, take, get_or, slice_get, map, Some}
use Rattle.std.proofs.lemmas.List.{take_more, map-append}
use Rattle.std.proofs.lemmas.Option.{slice_get-get_or}
use Rattle.llvm_types.specs.declared.kind.LlvmType.{LlvmType}
use Rattle.llvm_types.specs.declared.kind.LlvmType.TheVariants.{Void}
use Rattle.llvm_bodies.specs.declared.facts.Signature.{Signature}
use Rattle.llvm_records.specs.Facts.{signature_of}

pub signatures_more : (all : List LlvmType) (n : ℕ) (old new : List Signature) (s : Signature) → old ≡ map (λ t. signature_of all (Some t)) (take n all) → n < length all
    → s ≡ signature_of all (slice_get all n) → new ≡ old ++ s ∷ [] → new ≡ map (λ t. signature_of all (Some t)) (take (n + 1) all)
signatures_more all n old new s before h is pushed =
    let t = get_or all n Void in
    let same : s ≡ signature_of all (Some t) = is ∙ ap (signature_of all) (slice_get-get_or all n Void h) in
    pushed ∙ ap (λ l. l ++ s ∷ []) before ∙ ap (λ x. map (λ t. signature_of all (Some t)) (take n all) ++ x ∷ []) same
    ∙ sym (map-append (λ t. signature_of all (Some t)) (take n all) (t ∷ [])) ∙ ap (map (λ t. signature_of all (Some t))) (sym (take_more all n Void h))
