-- What the decorations of a module say with one instruction more.
use Rattle.std.proofs.Common.{ℕ, ◌≡◌, ◌+◌, ◌<◌, ◌≤◌, ◌&&◌, ◌||◌, refl, sym, ap, subst, ◌∙◌, List, [], ◌∷◌, ◌++◌, length, take, get_or, Option, Some, None, Bool, true, false, cond, eqb, unwrap_or, take_all, option_map}
use Rattle.std.proofs.lemmas.Bool.{eqb-true}
use Rattle.std.proofs.lemmas.List.{take_more}
use Rattle.std.proofs.lemmas.List.Folds.{find-append, list_any-append}
use Rattle.std.specs.List.{list_any, find}
use Rattle.std.specs.Option.{option_or, option_map_or}
use Rattle.spv_form.specs.declared.module.Inst.{Inst}
use Rattle.spv_ids.specs.Roles.{operand}
use Rattle.decoration_rules.specs.declared.marks.Marks.{Marks}
use Rattle.decoration_rules.specs.Decorations.{is_decoration, is_numbered, is_stride, is_built_in, is_first_offset, number_of, marks_of, add, or_number, target, unmarked, IsMarked, AreMarksOf}

or_false : (b : Bool) → (b || false) ≡ b
or_false true = refl
or_false false = refl

or_none : (o : Option ℕ) → option_or o None ≡ o
or_none None = refl
or_none (Some k) = refl

-- ---- an id that is no target keeps its marks

decorated_other : (a b k : Bool) (t id : ℕ) → option_map_or (λ u. eqb u id) (cond a (Some t) (cond b (Some t) None)) false ≡ false → (a && (eqb t id && k)) ≡ false
decorated_other true b k t id h = rw h refl
decorated_other false b k t id h = refl

member_other : (a b k : Bool) (t id : ℕ) → option_map_or (λ u. eqb u id) (cond a (Some t) (cond b (Some t) None)) false ≡ false → (b && (eqb t id && k)) ≡ false
member_other a false k t id h = refl
member_other true true k t id h = rw h refl
member_other false true k t id h = rw h refl

module _ (id : ℕ) (x : Inst) (h : option_map_or (λ u. eqb u id) (target x) false ≡ false) where
  not_decoration : (kind : ℕ) → is_decoration id kind x ≡ false
  unfolding is_decoration
  not_decoration kind = decorated_other (eqb x.opcode 71) (eqb x.opcode 72) (eqb (operand x 1) kind) (operand x 0) id h

  not_numbered : (kind : ℕ) → is_numbered id kind x ≡ false
  unfolding is_numbered
  not_numbered kind = rw (not_decoration kind) refl

  not_stride : is_stride id x ≡ false
  unfolding is_stride
  not_stride = rw (not_numbered 6) refl

  not_built_in : is_built_in id x ≡ false
  unfolding is_built_in
  not_built_in = rw (not_numbered 11) refl

  not_first_offset : is_first_offset id x ≡ false
  unfolding is_first_offset
  not_first_offset = member_other (eqb x.opcode 71) (eqb x.opcode 72) _ (operand x 0) id h

  quiet : (m : Marks) → m ≡ add id x m
  unfolding add
  quiet m =
      let n2 = not_decoration 2 in let n24 = not_decoration 24 in let n33 = not_numbered 33 in let n34 = not_numbered 34 in
      let o = not_first_offset in let s = not_stride in let b = not_built_in in
      let e1 = or_none m.set in let e2 = or_none m.binding in
      let f1 = or_false m.block in let f2 = or_false m.first_offset in let f3 = or_false m.stride in let f4 = or_false m.built_in in let f5 = or_false m.non_writable in
      rw (n2, n24, n33, n34, o, s, b, e1, e2, f1, f2, f3, f4, f5) refl

-- ---- one instruction more
number_or : (o : Option Inst) (b : Bool) (x : Inst) → option_map (λ y. operand y 2) (option_or o (cond b (Some x) None)) ≡ option_or (option_map (λ y. operand y 2) o) (cond b (Some (operand x 2)) None)
number_or (Some y) b x = refl
number_or None true x = refl
number_or None false x = refl

number_push : (xs : List Inst) (x : Inst) (id kind : ℕ) → number_of (xs ++ x ∷ []) id kind ≡ or_number (number_of xs id kind) id kind x
unfolding number_of
number_push xs x id kind = ap (option_map (λ y. operand y 2)) (find-append (is_numbered id kind) xs (x ∷ [])) ∙ number_or (find (is_numbered id kind) xs) (is_numbered id kind x) x

any_push : (p : Inst → Bool) (xs : List Inst) (x : Inst) → list_any p (xs ++ x ∷ []) ≡ (list_any p xs || p x)
any_push p xs x = list_any-append p xs (x ∷ []) ∙ ap (λ b. list_any p xs || b) (or_false (p x))

same_marks : (s s' b b' : Option ℕ) (a a' c c' d d' e e' f f' : Bool) → s ≡ s' → b ≡ b' → a ≡ a' → c ≡ c' → d ≡ d' → e ≡ e' → f ≡ f'
    → ◌≡◌ {A = Marks} (record { set = s; binding = b; block = a; first_offset = c; stride = d; built_in = e; non_writable = f }) (record { set = s'; binding = b'; block = a'; first_offset = c'; stride = d'; built_in = e'; non_writable = f' })
same_marks s s' b b' a a' c c' d d' e e' f f' p q r t u v w = cc

marks_push : (xs : List Inst) (x : Inst) (id : ℕ) → marks_of (xs ++ x ∷ []) id ≡ add id x (marks_of xs id)
unfolding marks_of add
marks_push xs x id = same_marks _ _ _ _ _ _ _ _ _ _ _ _ _ _ (number_push xs x id 34) (number_push xs x id 33)
    (any_push (is_decoration id 2) xs x) (any_push (is_first_offset id) xs x) (any_push (is_stride id) xs x) (any_push (is_built_in id) xs x) (any_push (is_decoration id 24) xs x)

-- ---- the table
pub marked_none : (old : ℕ → Option Marks) (x : Inst) → target x ≡ None → IsMarked old old x
marked_none old x e = record { marked = λ id. quiet id x (ap (λ o. option_map_or (λ u. eqb u id) o false) e) (unwrap_or (old id) unmarked) }

pub marked_new : (old new : ℕ → Option Marks) (x : Inst) (t : ℕ) (m : Marks) → target x ≡ Some t → m ≡ add t x (unwrap_or (old t) unmarked) → ((id : ℕ) → new id ≡ cond (eqb t id) (Some m) (old id)) → IsMarked old new x
marked_new old new x t m e is updates = record { marked = λ id. ap (λ o. unwrap_or o unmarked) (updates id) ∙ each id (eqb t id) refl } where
  each : (id : ℕ) (b : Bool) → eqb t id ≡ b → unwrap_or (cond b (Some m) (old id)) unmarked ≡ add id x (unwrap_or (old id) unmarked)
  each id true same = subst (λ (z : ℕ). m ≡ add z x (unwrap_or (old z) unmarked)) (eqb-true t id same) is
  each id false apart = quiet id x (ap (λ o. option_map_or (λ u. eqb u id) o false) e ∙ apart) (unwrap_or (old id) unmarked)

pub marks_none : (marks : ℕ → Option Marks) (insts : List Inst) → ((id : ℕ) → marks id ≡ None) → AreMarksOf marks (take 0 insts)
unfolding marks_of number_of
marks_none marks insts e = record { are = λ id. rw (e id) refl }

pub marks_more : (old new : ℕ → Option Marks) (insts : List Inst) (at : ℕ) (x : Inst) → AreMarksOf old (take at insts) → at < length insts → x ≡ get_or insts at x
    → IsMarked old new x → AreMarksOf new (take (at + 1) insts)
marks_more old new insts at x so_far h is k =
    let cut : take (at + 1) insts ≡ take at insts ++ x ∷ [] = take_more insts at x h ∙ ap (λ y. take at insts ++ y ∷ []) (sym is) in
    record { are = λ id. k.marked id ∙ ap (add id x) (so_far.are id) ∙ sym (marks_push (take at insts) x id) ∙ ap (λ l. marks_of l id) (sym cut) }

pub marks_all : (marks : ℕ → Option Marks) (insts : List Inst) (at : ℕ) → AreMarksOf marks (take at insts) → length insts ≤ at → AreMarksOf marks insts
marks_all marks insts at so_far h = subst (AreMarksOf marks) (take_all at insts h) so_far
