-- Parts that stand one behind the other.
use Rattle.std.proofs.Common.{ℕ, suc, ◌≡◌, ◌+◌, ◌<◌, ◌≤◌, refl, sym, ◌∙◌, ap, arith, add-zero, List, [], ◌∷◌, ◌++◌, length, take, get_or, Result, Ok, Err, Bool, false}
use Rattle.std.specs.List.{sum_by}
use Rattle.std.specs.Result.{is_err, OnOk}
use Rattle.std.proofs.lemmas.List.Sums.{sum_by-cons, sum_by-append}
use Rattle.std.proofs.lemmas.List.{take_more, take_all}
use Rattle.container_writer.specs.declared.part.NewPart.{NewPart}
use Rattle.container_writer.specs.Writing.{room}
use Rattle.container_writer.specs.Laying.{places_from}

-- one part more stands where those before it end
pub places_more : (at : ℕ) (parts : List NewPart) (part : NewPart) → places_from at (parts ++ part ∷ []) ≡ places_from at parts ++ (at + sum_by room parts) ∷ []
places_more at [] part = ap (λ (n : ℕ). n ∷ []) (sym (add-zero at))
places_more at (p ∷ ps) part =
    let place : at + room p + sum_by room ps ≡ at + sum_by room (p ∷ ps) = omega (arith, sum_by-cons room p ps) in
    ap (λ (ns : List ℕ). at ∷ ns) (rw (← place) (places_more (at + room p) ps part))

pub length-places : (at : ℕ) (parts : List NewPart) → length (places_from at parts) ≡ length parts
length-places at [] = refl
length-places at (p ∷ ps) = ap suc (length-places (at + room p) ps)

-- the place of the next part and the places behind it
pub plan_more : (at i : ℕ) (parts : List NewPart) (part : NewPart) (ps new : List ℕ) (n : ℕ) → i < length parts → part ≡ get_or parts i part → (ps ≡ places_from at (take i parts)) × (n ≡ at + sum_by room (take i parts))
    → new ≡ ps ++ n ∷ [] → (new ≡ places_from at (take (i + 1) parts)) × (n + room part ≡ at + sum_by room (take (i + 1) parts))
plan_more at i parts part ps new n low there before pushed =
    let more : take (i + 1) parts ≡ take i parts ++ part ∷ [] = take_more parts i part low ∙ ap (λ p. take i parts ++ p ∷ []) (sym there) in (
      pushed ∙ ap (λ l. l ++ n ∷ []) before.0 ∙ ap (λ m. places_from at (take i parts) ++ m ∷ []) before.1 ∙ sym (places_more at (take i parts) part) ∙ ap (places_from at) (sym more),
      omega (arith, ap (sum_by room) more, sum_by-append room (take i parts) (part ∷ []), sum_by-cons room part [], before.1),
    )

-- what holds where a call is Ok
pub where_ok : {E P : Type 0} (r : Result (Unit {0}) E) (b : Bool) → b ≡ is_err r → b ≡ false → OnOk r P → P
where_ok (Ok x) b e f h = h
where_ok (Err x) b e f h = absurd (cc)

-- the place of the last part
pub plan_last : (at i : ℕ) (parts items : List NewPart) (last : NewPart) (ps new : List ℕ) (n : ℕ) → items ≡ parts → length items ≤ i → (ps ≡ places_from at (take i items)) × (n ≡ at + sum_by room (take i items)) → new ≡ ps ++ n ∷ [] → new ≡ places_from at (parts ++ last ∷ [])
plan_last at i parts items last ps new n same high before pushed =
    let whole : take i items ≡ parts = take_all i items high ∙ same in
    pushed ∙ ap (λ l. l ++ n ∷ []) before.0 ∙ ap (λ m. places_from at (take i items) ++ m ∷ []) before.1 ∙ sym (places_more at (take i items) last) ∙ ap (λ xs. places_from at (xs ++ last ∷ [])) whole
