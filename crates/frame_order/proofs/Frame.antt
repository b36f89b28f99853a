-- What the instructions before the function's first label are: the part of the order that each belongs to, and that it breaks no rule of a single instruction.
use Rattle.std.proofs.Common.{◌≡◌, ℕ, suc, ◌+◌, ◌*◌, Bool, true, false, not, List, [], ◌∷◌, length, Some, refl, sym, ap, subst, arith}
use Rattle.std.specs.Prelude.{◌==◌, ◌&&◌, ◌||◌, nat_eq, nat_lt}
use Rattle.dxil_form.specs.declared.program.Program.{Program}
use Rattle.spv_form.specs.declared.module.Inst.{Inst}
use Rattle.spv_ids.specs.Roles.{operand}
use Rattle.spv_ids.specs.Places.{is_op}
use Rattle.order_rules.specs.Order.{part, is_terminator}
use Rattle.order_rules.specs.Once.{is_once, is_placed}
use Rattle.module_rules.specs.Entry.{is_size, is_wrong_size, has_many_pairs}
use Rattle.spirv_code.specs.declared.key.Sort.TheVariants as sort
use Rattle.spirv_code.specs.declared.key.Global.{Global}
use Rattle.spirv_code.specs.declared.key.Global.TheVariants.{Plain, Pointer, Number, Truth, Input, Buffer, Shared}
use Rattle.spirv_code.specs.Keys.{storage_class}
use Rattle.spirv_code.specs.Plans.{inst}
use Rattle.spirv_code.specs.Frame.{rowed, buffer_storage, words_declaration, declaration, declarations}
use Rattle.frame_facts.proofs.Searches.{Each, if_not, eq_told}
use Rattle.module_form.proofs.Gathered.{is_decoration}

-- ---- single instructions

-- what breaks none of the rules V2, V11, V12 and V15, wherever it stands
pub record Calm (x : Inst) : Type 0 where
  pub once : is_once x.opcode ≡ false
  pub sized : is_wrong_size x ≡ false
  pub paired : has_many_pairs x ≡ false
  pub placed : (insts : List Inst) (at : ℕ) → is_placed insts at x ≡ true

-- no entry point or what goes with it, no variable and no switch
abbrev pub is_calm : ℕ → Bool
is_calm n = not (n == 14) && (not (n == 15) && (not (n == 16) && (not (n == 17) && (not (n == 59) && not (n == 251)))))

pub calm : (x : Inst) → is_calm x.opcode ≡ true → Calm x
unfolding is_wrong_size has_many_pairs is_placed
calm x e =
    record {
      once = no_once x.opcode e;
      sized = ap (λ b. b && not (is_size (operand x 2) (operand x 3) (operand x 4))) (no_size x.opcode e);
      paired = ap (λ b. b && nat_lt (2 + 2 * 16383) (length x.operands)) (no_switch x.opcode e);
      placed = λ insts at. if_not _ (no_variable x.opcode e) _ _;
    }
  where
    no_once : (n : ℕ) → is_calm n ≡ true → is_once n ≡ false
    no_once n e = grind arith

    no_size : (n : ℕ) → is_calm n ≡ true → (n == 16) ≡ false
    no_size n e = grind arith

    no_switch : (n : ℕ) → is_calm n ≡ true → (n == 251) ≡ false
    no_switch n e = grind arith

    no_variable : (n : ℕ) → is_calm n ≡ true → (n == 59) ≡ false
    no_variable n e = grind arith

-- a terminator, if it is no switch of too many pairs
pub terminator_calm : (x : Inst) → is_terminator x.opcode ≡ true → has_many_pairs x ≡ false → Calm x
unfolding is_wrong_size is_placed
terminator_calm x e few =
    record {
      once = no_once x.opcode e;
      sized = ap (λ b. b && not (is_size (operand x 2) (operand x 3) (operand x 4))) (no_size x.opcode e);
      paired = few;
      placed = λ insts at. if_not _ (no_variable x.opcode e) _ _;
    }
  where
    no_once : (n : ℕ) → is_terminator n ≡ true → is_once n ≡ false
    no_once n e = grind arith

    no_size : (n : ℕ) → is_terminator n ≡ true → (n == 16) ≡ false
    no_size n e = grind arith

    no_variable : (n : ℕ) → is_terminator n ≡ true → (n == 59) ≡ false
    no_variable n e = grind arith

-- a variable outside the function
global_calm : (type id class : ℕ) → (class == 7) ≡ false → Calm (inst 59 (type ∷ id ∷ class ∷ []))
unfolding is_wrong_size has_many_pairs is_placed
global_calm type id class other =
    record { once = refl; sized = refl; paired = refl; placed = λ insts at. if_not (class == 7) other _ _ }

-- ---- what stands before the first label: an instruction of a part of the order

pub record Early (n : ℕ) (x : Inst) : Type 0 where
  pub is_calm : Calm x
  pub no_label : is_op 248 x ≡ false
  pub part_is : part x ≡ Some n

early_global : (type id class : ℕ) → (class == 7) ≡ false → Early 6 (inst 59 (type ∷ id ∷ class ∷ []))
unfolding part
early_global type id class other =
    record { is_calm = global_calm type id class other; no_label = refl; part_is = if_not (class == 7) other _ _ }

pub early_name : (operands : List ℕ) → Early 4 (inst 5 operands)
unfolding part
early_name operands = record { is_calm = calm (inst 5 operands) refl; no_label = refl; part_is = refl }

pub early_void : Early 6 (inst 19 (2 ∷ []))
unfolding part
early_void = record { is_calm = calm (inst 19 (2 ∷ [])) refl; no_label = refl; part_is = refl }

pub early_function : Early 6 (inst 33 (3 ∷ 2 ∷ []))
unfolding part
early_function = record { is_calm = calm (inst 33 (3 ∷ 2 ∷ [])) refl; no_label = refl; part_is = refl }

-- ---- decorations

decorate_early : (operands : List ℕ) → Early 5 (inst 71 operands)
unfolding part
decorate_early operands = record { is_calm = calm (inst 71 operands) refl; no_label = refl; part_is = refl }

member_early : (operands : List ℕ) → Early 5 (inst 72 operands)
unfolding part
member_early operands = record { is_calm = calm (inst 72 operands) refl; no_label = refl; part_is = refl }

pub early_decoration : (x : Inst) → is_decoration x.opcode ≡ true → Early 5 x
early_decoration x e = by_first (nat_eq x.opcode 71) refl e
  where
    at_opcode : (n : ℕ) → x.opcode ≡ n → Early 5 (inst n x.operands) → Early 5 x
    at_opcode n same h = subst (λ k. Early 5 (inst k x.operands)) (sym same) h

    by_second : (t : Bool) → nat_eq x.opcode 72 ≡ t → t ≡ true → Early 5 x
    by_second true f g = at_opcode 72 (eq_told x.opcode 72 f) (member_early x.operands)
    by_second false f g = absurd (cc)

    by_first : (t : Bool) → nat_eq x.opcode 71 ≡ t → (t || nat_eq x.opcode 72) ≡ true → Early 5 x
    by_first true f g = at_opcode 71 (eq_told x.opcode 71 f) (decorate_early x.operands)
    by_first false f g = by_second (nat_eq x.opcode 72) refl g

-- ---- declarations

-- a type or a constant
typed : (n : ℕ) (operands : List ℕ) → is_calm n ≡ true → (n == 248) ≡ false → part (inst n operands) ≡ Some 6 → Early 6 (inst n operands)
typed n operands calm_is other is = record { is_calm = calm (inst n operands) calm_is; no_label = other; part_is = is }

words_early : (p : Program) (ids : Global → ℕ) (id r : ℕ) (b : Bool) → Early 6 (words_declaration p ids id b r)
unfolding part
words_early p ids id r true = typed 28 _ refl refl refl
words_early p ids id r false = typed 29 _ refl refl refl

declaration_early : (p : Program) (ids : Global → ℕ) (id : ℕ) (g : Global) → Early 6 (declaration p ids id g)
unfolding part
declaration_early p ids id (Plain sort.Int) = typed 21 _ refl refl refl
declaration_early p ids id (Plain sort.Bool) = typed 20 _ refl refl refl
declaration_early p ids id (Plain sort.Triple) = typed 23 _ refl refl refl
declaration_early p ids id (Plain sort.Row) = typed 23 _ refl refl refl
declaration_early p ids id (Plain (sort.Words r)) = words_early p ids id r (rowed p r)
declaration_early p ids id (Plain (sort.Block r)) = typed 30 _ refl refl refl
declaration_early p ids id (Plain (sort.Array a)) = typed 28 _ refl refl refl
declaration_early p ids id (Pointer s to) = typed 32 _ refl refl refl
declaration_early p ids id (Number n) = typed 43 _ refl refl refl
declaration_early p ids id (Truth true) = typed 41 _ refl refl refl
declaration_early p ids id (Truth false) = typed 42 _ refl refl refl
declaration_early p ids id (Input b) = early_global _ id 1 refl
declaration_early p ids id (Buffer r) = by_rows (rowed p r)
  where
    by_rows : (b : Bool) → Early 6 (inst 59 (ids (Pointer (buffer_storage b) (sort.Block r)) ∷ id ∷ storage_class (buffer_storage b) ∷ []))
    by_rows true = early_global _ id 2 refl
    by_rows false = early_global _ id 12 refl
declaration_early p ids id (Shared a) = early_global _ id 4 refl

pub declarations_early : (p : Program) (ids : Global → ℕ) (n : ℕ) (table : List Global) → Each (Early 6) (declarations p ids n table)
declarations_early p ids n [] = tt
declarations_early p ids n (g ∷ table) = (declaration_early p ids n g, declarations_early p ids (suc n) table)
