-- What no rule's sentence says of a line of a body that breaks none.
use Rattle.std.proofs.Common.{ℕ, zero, suc, ◌≡◌, inl, inr, refl, ◌∙◌, Bool, false, List, [], ◌∷◌, take, slice_get, Some}
use Rattle.std.proofs.lemmas.Bool.{cases_Bool}
use Rattle.std.proofs.lemmas.Option.{same_Some}
use Rattle.dx_base.specs.First.{IsSound}
use Rattle.dx_base.specs.Sentences.{holds}
use Rattle.llvm_bodies.specs.declared.line.Line.{Line}
use Rattle.profile_tables.specs.EntryBody.{EntryBody}
use Rattle.profile_tables.specs.Read.{IsAt}
use Rattle.profile_rules.specs.Rules.{Broken, sentences, p1, p2, p3, p4, p5, p7, p8, p10, p11, p12, p13, p14, p15, p16, p17, p18, p19, p20, p21, p22, many_resources}

holds_at : (bs : List Bool) (n : ℕ) (b : Bool) → slice_get bs n ≡ Some b → holds bs (suc n) ≡ b
holds_at [] n b e = cc
holds_at (c ∷ bs) zero b e = same_Some c b e
holds_at (c ∷ bs) (suc n) b e = holds_at bs n b e

module _ (x : EntryBody) (sound : IsSound (Broken x)) (i : ℕ) (line : Line) (at : IsAt x i line) where
  clear : (n : ℕ) (b : Bool) → slice_get (sentences x (take i x.lines) line) n ≡ Some b → b ≡ false
  clear n b e = elim (cases_Bool b) [
    | inl t ↦ absurd (sound.none (suc n) line.bit (record { index = i; place = line; stands = at; at_bit = refl; breaks = holds_at (sentences x (take i x.lines) line) n b e ∙ t }))
    | inr f ↦ f
  ]

  pub keeps1 : p1 x line ≡ false
  keeps1 = clear 0 _ refl

  pub keeps2 : p2 x line ≡ false
  keeps2 = clear 1 _ refl

  pub keeps3 : p3 x line ≡ false
  keeps3 = clear 2 _ refl

  pub keeps4 : p4 x line ≡ false
  keeps4 = clear 3 _ refl

  pub keeps5 : p5 x line ≡ false
  keeps5 = clear 4 _ refl

  pub keeps7 : p7 x line ≡ false
  keeps7 = clear 6 _ refl

  pub keeps8 : p8 line ≡ false
  keeps8 = clear 7 _ refl

  pub keeps10 : p10 x line ≡ false
  keeps10 = clear 9 _ refl

  pub keeps11 : p11 x (take i x.lines) line ≡ false
  keeps11 = clear 10 _ refl

  pub keeps12 : p12 x line ≡ false
  keeps12 = clear 11 _ refl

  pub keeps13 : p13 x line ≡ false
  keeps13 = clear 12 _ refl

  pub keeps14 : p14 x line ≡ false
  keeps14 = clear 13 _ refl

  pub keeps15 : p15 x line ≡ false
  keeps15 = clear 14 _ refl

  pub keeps16 : p16 x line ≡ false
  keeps16 = clear 15 _ refl

  pub keeps17 : p17 x line ≡ false
  keeps17 = clear 16 _ refl

  pub keeps18 : p18 x line ≡ false
  keeps18 = clear 17 _ refl

  pub keeps19 : p19 x line ≡ false
  keeps19 = clear 18 _ refl

  pub keeps20 : p20 x (take i x.lines) line ≡ false
  keeps20 = clear 19 _ refl

  pub keeps21 : p21 x line ≡ false
  keeps21 = clear 20 _ refl

  pub keeps22 : p22 x line ≡ false
  keeps22 = clear 21 _ refl

  pub keeps23 : many_resources x (take i x.lines) line ≡ false
  keeps23 = clear 22 _ refl
