-- What a table of first declarations has after one instruction more.
use Rattle.std.proofs.Common.{ℕ, ◌≡◌, ◌+◌, ◌<◌, ◌≤◌, ◌&&◌, refl, sym, ap, subst, ◌∙◌, arith, List, [], ◌∷◌, ◌++◌, length, take, get_or, Option, Some, None, Bool, true, false, cond, eqb, take_all}
use Rattle.std.proofs.lemmas.Bool.{eqb-true}
use Rattle.std.proofs.lemmas.Grind.{common_steps}
use Rattle.std.proofs.lemmas.List.{take_more}
use Rattle.std.specs.List.{position}
use Rattle.std.specs.Option.{option_or, is_some}
use Rattle.std.specs.Ordering.{nat_cmp, ordering_then, is_eq}
use Rattle.std.specs.declared.cmp.Ordering.{Ordering}
use Rattle.std.specs.declared.cmp.Ordering.TheVariants.{Less, Equal, Greater}
use Rattle.spv_form.specs.declared.module.Inst.{Inst}
use Rattle.spv_ids.specs.Roles.{operand}
use Rattle.spv_ids.proofs.IdLaws.{position_push}
use Rattle.id_rules.specs.Again.{is_single, Key, key_cmp, has_key, key_of, AreFirst, IsKept}

-- ---- keys
both_tied : (o p : Ordering) → is_eq (ordering_then o p) ≡ (is_eq o && is_eq p)
both_tied Less p = refl
both_tied Equal p = refl
both_tied Greater p = refl

nat_tied : (a b : ℕ) → is_eq (nat_cmp a b) ≡ eqb a b
nat_tied a b = grind (arith, common_steps)

and_assoc : (a b c : Bool) → ((a && b) && c) ≡ (a && (b && c))
and_assoc true b c = refl
and_assoc false b c = refl

key_tied : (p q : Key) → is_eq (key_cmp p q) ≡ (eqb p.0 q.0 && (eqb p.1 q.1 && eqb p.2 q.2))
key_tied p q =
    both_tied (ordering_then (nat_cmp p.0 q.0) (nat_cmp p.1 q.1)) (nat_cmp p.2 q.2)
    ∙ ap (λ b. b && is_eq (nat_cmp p.2 q.2)) (both_tied (nat_cmp p.0 q.0) (nat_cmp p.1 q.1) ∙ ap (λ b. b && is_eq (nat_cmp p.1 q.1)) (nat_tied p.0 q.0) ∙ ap (λ b. eqb p.0 q.0 && b) (nat_tied p.1 q.1))
    ∙ ap (λ b. (eqb p.0 q.0 && eqb p.1 q.1) && b) (nat_tied p.2 q.2)
    ∙ and_assoc (eqb p.0 q.0) (eqb p.1 q.1) (eqb p.2 q.2)

same_triple : (a b c d e f : ℕ) → a ≡ d → b ≡ e → c ≡ f → ◌≡◌ {A = Key} (a, b, c) (d, e, f)
same_triple a b c d e f p q r = cc

same_key : (p q : Key) → (eqb p.0 q.0 && (eqb p.1 q.1 && eqb p.2 q.2)) ≡ true → p ≡ q
same_key p q e = cases (eqb p.0 q.0) (eqb p.1 q.1) (eqb p.2 q.2) refl refl refl e where
  cases : (a b c : Bool) → eqb p.0 q.0 ≡ a → eqb p.1 q.1 ≡ b → eqb p.2 q.2 ≡ c → (a && (b && c)) ≡ true → p ≡ q
  cases true true true f g h t = same_triple p.0 p.1 p.2 q.0 q.1 q.2 (eqb-true p.0 q.0 f) (eqb-true p.1 q.1 g) (eqb-true p.2 q.2 h)
  cases false b c f g h t = cc
  cases true false c f g h t = cc
  cases true true false f g h t = cc

not_single : (x : Inst) (q : Key) → is_single x.opcode ≡ false → has_key q x ≡ false
unfolding has_key
not_single x q e = rw e refl

single : (x : Inst) (q : Key) → is_single x.opcode ≡ true → has_key q x ≡ is_eq (key_cmp (key_of x) q)
unfolding has_key
single x q e = ap (λ b. b && (eqb x.opcode q.0 && (eqb (operand x 1) q.1 && eqb (operand x 2) q.2))) e ∙ sym (key_tied (key_of x) q)

-- ---- what is kept
or_none : (o : Option ℕ) → o ≡ option_or o None
or_none None = refl
or_none (Some k) = refl

or_there : (o z : Option ℕ) → is_some o ≡ true → o ≡ option_or o z
or_there None z e = cc
or_there (Some k) z e = refl

or_absent : (o z : Option ℕ) → is_some o ≡ false → z ≡ option_or o z
or_absent None z e = refl
or_absent (Some k) z e = cc

same_from_tied : (p q : Key) → is_eq (key_cmp p q) ≡ true → p ≡ q
same_from_tied p q e = same_key p q (sym (key_tied p q) ∙ e)

pub kept_none : (old : Key → Option ℕ) (x : Inst) (at : ℕ) → is_single x.opcode ≡ false → IsKept old old x at
kept_none old x at e = record { kept = λ q. rw (not_single x q e) (or_none (old q)) }

pub kept_there : (old : Key → Option ℕ) (x : Inst) (at : ℕ) (k : Key) → k ≡ key_of x → is_single x.opcode ≡ true → is_some (old k) ≡ true → IsKept old old x at
kept_there old x at k is e is_there = record { kept = λ q. rw (single x q e) (each q (is_eq (key_cmp (key_of x) q)) refl) } where
  there : is_some (old (key_of x)) ≡ true
  there = subst (λ (z : Key). is_some (old z) ≡ true) is is_there

  each : (q : Key) (b : Bool) → is_eq (key_cmp (key_of x) q) ≡ b → old q ≡ option_or (old q) (cond b (Some at) None)
  each q true tied = or_there (old q) (Some at) (subst (λ (z : Key). is_some (old z) ≡ true) (same_from_tied (key_of x) q tied) there)
  each q false apart = or_none (old q)

pub kept_new : (old new : Key → Option ℕ) (x : Inst) (at : ℕ) (k : Key) → k ≡ key_of x → is_single x.opcode ≡ true → is_some (old k) ≡ false → ((q : Key) → new q ≡ cond (is_eq (key_cmp k q)) (Some at) (old q)) → IsKept old new x at
kept_new old new x at k is e is_absent is_new = record { kept = λ q. rw (single x q e, updates q) (each q (is_eq (key_cmp (key_of x) q)) refl) } where
  absent : is_some (old (key_of x)) ≡ false
  absent = subst (λ (z : Key). is_some (old z) ≡ false) is is_absent

  updates : (q : Key) → new q ≡ cond (is_eq (key_cmp (key_of x) q)) (Some at) (old q)
  updates = subst (λ (z : Key). (q : Key) → new q ≡ cond (is_eq (key_cmp z q)) (Some at) (old q)) is is_new

  each : (q : Key) (b : Bool) → is_eq (key_cmp (key_of x) q) ≡ b → cond b (Some at) (old q) ≡ option_or (old q) (cond b (Some at) None)
  each q true tied = or_absent (old q) (Some at) (subst (λ (z : Key). is_some (old z) ≡ false) (same_from_tied (key_of x) q tied) absent)
  each q false apart = or_none (old q)

-- ---- the loop
pub first_none : (first : Key → Option ℕ) (insts : List Inst) → ((q : Key) → first q ≡ None) → AreFirst first (take 0 insts)
first_none first insts e = record { are = λ q. e q }

pub first_more : (old new : Key → Option ℕ) (insts : List Inst) (at : ℕ) (x : Inst) → AreFirst old (take at insts) → at < length insts → x ≡ get_or insts at x → IsKept old new x at → AreFirst new (take (at + 1) insts)
first_more old new insts at x so_far h is k =
    let cut : take (at + 1) insts ≡ take at insts ++ x ∷ [] = take_more insts at x h ∙ ap (λ y. take at insts ++ y ∷ []) (sym is) in
    record {
      are = λ q.
          k.kept q ∙ ap (λ o. option_or o (cond (has_key q x) (Some at) None)) (so_far.are q)
          ∙ ap (λ n. option_or (position (has_key q) (take at insts)) (cond (has_key q x) (Some n) None)) (size at insts h)
          ∙ sym (position_push (has_key q) (take at insts) x) ∙ ap (position (has_key q)) (sym cut);
    } where
      size : (n : ℕ) (xs : List Inst) → n < length xs → n ≡ length (take n xs)
      size n xs l = grind (arith, common_steps)

pub first_all : (first : Key → Option ℕ) (insts : List Inst) (at : ℕ) → AreFirst first (take at insts) → length insts ≤ at → AreFirst first insts
first_all first insts at so_far h = subst (AreFirst first) (take_all at insts h) so_far
