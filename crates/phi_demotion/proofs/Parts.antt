-- The parts of a mask, one by one.
use Rattle.std.proofs.Common.{◌≡◌, ℕ, Bool, true, false, ◌||◌, ◌&&◌, if◌then◌else◌, List, [], ◌∷◌, ◌++◌, map, filter, refl, ap, sym, ◌∙◌, cond, Result, Ok, Err}
use Rattle.std.specs.Result.{OnOk}
use Rattle.std.specs.List.{flat_map, list_any}
use Rattle.dxil_form.specs.declared.value.Ty.TheVariants.{Int}
use Rattle.dxil_form.specs.Registers.{typed, part_of}
use Rattle.phi_demotion.specs.Reads.{is_key, has_key}

pub or_four : (a b c d e : Bool) → ((((a || b) || c) || d) || e) ≡ (a || (b || (c || (d || (e || false)))))
or_four true b c d e = refl
or_four false true c d e = refl
or_four false false true d e = refl
or_four false false false true e = refl
or_four false false false false true = refl
or_four false false false false false = refl

-- the registers of the parts that pass a test
pub has_parts : (value : ℕ) (q : ℕ × ℕ) (test : ℕ → Bool) (cs : List ℕ) → has_key (map (λ c. typed (part_of value c) Int) (filter test cs)) q ≡ list_any (λ c. test c && is_key (value, c) q) cs
has_parts value q test [] = refl
has_parts value q test (c ∷ cs) = by_test (test c) (has_parts value q test cs)
  where
    by_test : (b : Bool) → has_key (map (λ c. typed (part_of value c) Int) (filter test cs)) q ≡ list_any (λ c. test c && is_key (value, c) q) cs → has_key (map (λ c. typed (part_of value c) Int) (cond b (c ∷ filter test cs) (filter test cs))) q ≡ ((b && is_key (value, c) q) || list_any (λ c. test c && is_key (value, c) q) cs)
    by_test true ih = ap (λ z. is_key (value, c) q || z) ih
    by_test false ih = ih

-- what is made of the parts that pass a test
pub map_parts : {A : Type 0} (f : ℕ → A) (test : ℕ → Bool) (cs : List ℕ) → map f (filter test cs) ≡ flat_map (λ c. if test c then f c ∷ [] else []) cs
map_parts f test [] = refl
map_parts f test (c ∷ cs) = by_test (test c) (map_parts f test cs)
  where
    by_test : (b : Bool) → map f (filter test cs) ≡ flat_map (λ c. if test c then f c ∷ [] else []) cs → map f (cond b (c ∷ filter test cs) (filter test cs)) ≡ (if b then f c ∷ [] else []) ++ flat_map (λ c. if test c then f c ∷ [] else []) cs
    by_test true ih = ap (λ z. f c ∷ z) ih
    by_test false ih = ih

-- what four steps add, one part each, is what the parts of a mask add
pub parts_all : (value : ℕ) (q : ℕ × ℕ) (test : ℕ → Bool) (s0 s1 s2 s3 s4 : Bool) → s1 ≡ (s0 || (test 0 && is_key (value, 0) q)) → s2 ≡ (s1 || (test 1 && is_key (value, 1) q)) → s3 ≡ (s2 || (test 2 && is_key (value, 2) q)) → s4 ≡ (s3 || (test 3 && is_key (value, 3) q)) → s4 ≡ (s0 || has_key (map (λ c. typed (part_of value c) Int) (filter test (0 ∷ 1 ∷ 2 ∷ 3 ∷ []))) q)
parts_all value q test s0 s1 s2 s3 s4 e1 e2 e3 e4 =
    let a : ℕ → Bool = λ c. test c && is_key (value, c) q in
    e4 ∙ ap (λ z. z || a 3) (e3 ∙ ap (λ z. z || a 2) (e2 ∙ ap (λ z. z || a 1) e1)) ∙ or_four s0 (a 0) (a 1) (a 2) (a 3)
    ∙ ap (λ z. s0 || z) (sym (has_parts value q test (0 ∷ 1 ∷ 2 ∷ 3 ∷ [])))

pub on_ok_then : {E P Q : Type 0} (r : Result (Unit {0}) E) → OnOk r P → (P → Q) → OnOk r Q
on_ok_then (Ok u) p f = f p
on_ok_then (Err e) p f = tt
