-- How many loops are open at each label, from the instructions alone: OpLoopMerge opens one, and its continue target closes it.
use Rattle.std.proofs.Common.{◌≡◌, ℕ, suc, ◌+◌, ◌<◌, ◌≤◌, Bool, true, false, eqb, ne_eqb, List, [], ◌∷◌, ◌++◌, length, length-append, refl, sym, ap, ◌∙◌, subst, arith}
use Rattle.std.specs.Prelude.{map, Contains, ◌==◌, if◌then◌else◌}
use Rattle.spv_form.specs.declared.module.Inst.{Inst}
use Rattle.flow_blocks.specs.Blocks.{operand}
use Rattle.row_laws.proofs.Basics.{first_in, next_in}
use Rattle.written_rows.specs.Code.{AreInner, labels}

abbrev pub remove : ℕ → List ℕ → List ℕ
remove l [] = []
remove l (x ∷ xs) = if eqb l x then xs else x ∷ remove l xs

-- the continue targets of the loops that are open behind an instruction, and behind some
abbrev pub step : List ℕ → Inst → List ℕ
step waits x = if x.opcode == 248 then remove (operand x 0) waits else if x.opcode == 246 then operand x 1 ∷ waits else waits

abbrev pub after : List ℕ → List Inst → List ℕ
after waits [] = waits
after waits (x ∷ xs) = after (step waits x) xs

-- how many loops are open at each label
abbrev pub scan : List ℕ → List Inst → List ℕ
scan waits [] = []
scan waits (x ∷ xs) = if x.opcode == 248 then length (remove (operand x 0) waits) ∷ scan (step waits x) xs else scan (step waits x) xs

pub after_append : (waits : List ℕ) (xs ys : List Inst) → after waits (xs ++ ys) ≡ after (after waits xs) ys
after_append waits [] ys = refl
after_append waits (x ∷ xs) ys = after_append (step waits x) xs ys

pub scan_append : (waits : List ℕ) (xs ys : List Inst) → scan waits (xs ++ ys) ≡ scan waits xs ++ scan (after waits xs) ys
scan_append waits [] ys = refl
scan_append waits (x ∷ xs) ys = by_test (x.opcode == 248) (scan_append (step waits x) xs ys)
  where
    by_test : (b : Bool) → scan (step waits x) (xs ++ ys) ≡ scan (step waits x) xs ++ scan (after (step waits x) xs) ys → (if b then length (remove (operand x 0) waits) ∷ scan (step waits x) (xs ++ ys) else scan (step waits x) (xs ++ ys)) ≡ (if b then length (remove (operand x 0) waits) ∷ scan (step waits x) xs else scan (step waits x) xs) ++ scan (after (step waits x) xs) ys
    by_test true e = ap (λ ns. length (remove (operand x 0) waits) ∷ ns) e
    by_test false e = e

pub scan_count : (waits : List ℕ) (xs : List Inst) → length (scan waits xs) ≡ length (labels xs)
scan_count waits [] = refl
scan_count waits (x ∷ xs) = by_test (x.opcode == 248) (scan_count (step waits x) xs)
  where
    by_test : (b : Bool) → length (scan (step waits x) xs) ≡ length (labels xs) → length (if b then length (remove (operand x 0) waits) ∷ scan (step waits x) xs else scan (step waits x) xs) ≡ length (if b then operand x 0 ∷ labels xs else labels xs)
    by_test true e = ap suc e
    by_test false e = e

-- ---- no label, merge instruction or terminator

low_not : (n m : ℕ) → n < 246 → 246 ≤ m → (n == m) ≡ false
low_not n m low high = ne_eqb n m (λ e. absurd (omega (arith, e, low, high)))

if_not : {A : Type 0} (b : Bool) → b ≡ false → (x y : A) → (if b then x else y) ≡ y
if_not b e x y = ap (λ (c : Bool). if c then x else y) e

low_step : (waits : List ℕ) (x : Inst) → x.opcode < 246 → step waits x ≡ waits
low_step waits x low =
    if_not (x.opcode == 248) (low_not x.opcode 248 low (omega arith)) _ _ ∙ if_not (x.opcode == 246) (low_not x.opcode 246 low (omega arith)) _ _

pub inner_after : (waits : List ℕ) (xs : List Inst) → AreInner xs → after waits xs ≡ waits
inner_after waits [] h = refl
inner_after waits (x ∷ xs) h = ap (λ o. after o xs) (low_step waits x h.0) ∙ inner_after waits xs h.1

pub inner_scan : (waits : List ℕ) (xs : List Inst) → AreInner xs → scan waits xs ≡ []
inner_scan waits [] h = refl
inner_scan waits (x ∷ xs) h =
    if_not (x.opcode == 248) (low_not x.opcode 248 h.0 (omega arith)) _ _ ∙ ap (λ o. scan o xs) (low_step waits x h.0) ∙ inner_scan waits xs h.1

-- ---- loops that were open before

true_false : true ≡ false → ⊥
true_false e = cc

eqb_same : (n m : ℕ) → eqb n m ≡ true → n ≡ m
eqb_same n m e = grind arith

pub remove_first : (l : ℕ) (xs : List ℕ) → remove l (l ∷ xs) ≡ xs
remove_first l xs = ap (λ (b : Bool). if b then xs else l ∷ remove l xs) (same l)
  where
    same : (n : ℕ) → eqb n n ≡ true
    same n = grind arith

-- a label that none of them waits for
pub remove_past : (l : ℕ) (xs ys : List ℕ) → (Contains ys l → ⊥) → remove l (xs ++ ys) ≡ remove l xs ++ ys
remove_past l [] ys other = nothing ys other
  where
    nothing : (zs : List ℕ) → (Contains zs l → ⊥) → remove l zs ≡ zs
    nothing [] other = refl
    nothing (z ∷ zs) other =
        ap (λ (b : Bool). if b then zs else z ∷ remove l zs) (ne_eqb l z (λ e. other (subst (Contains (z ∷ zs)) (sym e) (first_in z zs)))) ∙ ap (λ rest. z ∷ rest) (nothing zs (λ h. other (next_in z l zs h)))
remove_past l (x ∷ xs) ys other = by_test (eqb l x) (remove_past l xs ys other)
  where
    by_test : (b : Bool) → remove l (xs ++ ys) ≡ remove l xs ++ ys → (if b then xs ++ ys else x ∷ remove l (xs ++ ys)) ≡ (if b then xs else x ∷ remove l xs) ++ ys
    by_test true e = refl
    by_test false e = ap (λ rest. x ∷ rest) e

-- no label of the code is one of them
abbrev pub Apart : List ℕ → List Inst → Type 0
Apart waits xs = (l : ℕ) → Contains (labels xs) l → Contains waits l → ⊥

apart_rest : (waits : List ℕ) (x : Inst) (xs : List Inst) → Apart waits (x ∷ xs) → Apart waits xs
apart_rest waits x xs h l i o = h l (by_test (x.opcode == 248) i) o
  where
    by_test : (b : Bool) → Contains (labels xs) l → Contains (if b then operand x 0 ∷ labels xs else labels xs) l
    by_test true i = next_in (operand x 0) l (labels xs) i
    by_test false i = i

step_past : (here waits : List ℕ) (x : Inst) (xs : List Inst) → Apart waits (x ∷ xs) → step (here ++ waits) x ≡ step here x ++ waits
step_past here waits x xs h = by_label (x.opcode == 248) refl
  where
    by_loop : (c : Bool) → (if c then operand x 1 ∷ (here ++ waits) else here ++ waits) ≡ (if c then operand x 1 ∷ here else here) ++ waits
    by_loop true = refl
    by_loop false = refl

    mine : (x.opcode == 248) ≡ true → Contains (labels (x ∷ xs)) (operand x 0)
    mine e =
        subst (λ ids. Contains ids (operand x 0)) (sym (ap (λ (b : Bool). if b then operand x 0 ∷ labels xs else labels xs) e)) (first_in (operand x 0) (labels xs))

    by_label : (b : Bool) → (x.opcode == 248) ≡ b → (if b then remove (operand x 0) (here ++ waits) else (if x.opcode == 246 then operand x 1 ∷ (here ++ waits) else here ++ waits)) ≡ (if b then remove (operand x 0) here else (if x.opcode == 246 then operand x 1 ∷ here else here)) ++ waits
    by_label true e = remove_past (operand x 0) here waits (λ o. h (operand x 0) (mine e) o)
    by_label false e = by_loop (x.opcode == 246)

pub after_past : (here waits : List ℕ) (xs : List Inst) → Apart waits xs → after (here ++ waits) xs ≡ after here xs ++ waits
after_past here waits [] h = refl
after_past here waits (x ∷ xs) h =
    ap (λ o. after o xs) (step_past here waits x xs h) ∙ after_past (step here x) waits xs (apart_rest waits x xs h)

-- each label has as many more as there were
abbrev pub more : ℕ → List ℕ → List ℕ
more n ds = map (λ d. d + n) ds

pub scan_past : (here waits : List ℕ) (xs : List Inst) → Apart waits xs → scan (here ++ waits) xs ≡ more (length waits) (scan here xs)
scan_past here waits [] h = refl
scan_past here waits (x ∷ xs) h =
    by_label (x.opcode == 248) refl (ap (λ o. scan o xs) (step_past here waits x xs h) ∙ scan_past (step here x) waits xs (apart_rest waits x xs h))
  where
    mine : (x.opcode == 248) ≡ true → Contains (labels (x ∷ xs)) (operand x 0)
    mine e =
        subst (λ ids. Contains ids (operand x 0)) (sym (ap (λ (b : Bool). if b then operand x 0 ∷ labels xs else labels xs) e)) (first_in (operand x 0) (labels xs))

    by_label : (b : Bool) → (x.opcode == 248) ≡ b → scan (step (here ++ waits) x) xs ≡ more (length waits) (scan (step here x) xs) → (if b then length (remove (operand x 0) (here ++ waits)) ∷ scan (step (here ++ waits) x) xs else scan (step (here ++ waits) x) xs) ≡ more (length waits) (if b then length (remove (operand x 0) here) ∷ scan (step here x) xs else scan (step here x) xs)
    by_label true e rest =
        let one = ap length (remove_past (operand x 0) here waits (λ o. h (operand x 0) (mine e) o)) ∙ length-append (remove (operand x 0) here) waits in
        ap (λ n. n ∷ scan (step (here ++ waits) x) xs) one ∙ ap (λ ns. (length (remove (operand x 0) here) + length waits) ∷ ns) rest
    by_label false e rest = rest
