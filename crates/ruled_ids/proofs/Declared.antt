-- What is defined before the code of the regions.
use Rattle.std.proofs.Common.{◌≡◌, ℕ, zero, suc, ◌+◌, ◌<◌, Bool, true, false, List, [], ◌∷◌, length, Some, None, refl, sym, ap, ◌∙◌, arith}
use Rattle.std.specs.Prelude.{slice_get, nat_eq, ◌||◌}
use Rattle.dxil_form.specs.declared.program.Program.{Program}
use Rattle.spv_form.specs.declared.module.Inst.{Inst}
use Rattle.spv_form.specs.declared.module.Version.{Version}
use Rattle.spv_form.specs.Shapes.{shape_of}
use Rattle.spv_ids.specs.Roles.{result_of}
use Rattle.spirv_code.specs.declared.key.Sort.TheVariants as sort
use Rattle.spirv_code.specs.declared.key.Global.{Global}
use Rattle.spirv_code.specs.declared.key.Global.TheVariants.{Plain, Pointer, Number, Truth, Input, Buffer, Shared}
use Rattle.spirv_code.specs.declared.key.Slot.{Slot}
use Rattle.spirv_code.specs.Plans.{Plan, inst}
use Rattle.spirv_code.specs.Frame.{rowed, words_declaration, declaration, declarations, slot_variables, head, closing}
use Rattle.frame_facts.proofs.Searches.{Each, inj, eq_told}
use Rattle.module_form.proofs.Gathered.{is_decoration}

pub head_none : (p : Program) (v : Version) (plan : Plan) → Each (λ x. result_of x ≡ None) (head p v plan)
unfolding result_of shape_of
head_none p v plan = (refl, (refl, (refl, (refl, tt))))

pub closing_none : Each (λ x. result_of x ≡ None) closing
unfolding result_of shape_of
closing_none = (refl, (refl, tt))

pub name_none : (operands : List ℕ) → result_of (inst 5 operands) ≡ None
unfolding result_of shape_of
name_none operands = refl

decorate_none : (operands : List ℕ) → result_of (inst 71 operands) ≡ None
unfolding result_of shape_of
decorate_none operands = refl

member_none : (operands : List ℕ) → result_of (inst 72 operands) ≡ None
unfolding result_of shape_of
member_none operands = refl

pub decoration_none : (x : Inst) → is_decoration x.opcode ≡ true → result_of x ≡ None
decoration_none x e = by_first (nat_eq x.opcode 71) refl e
  where
    by_second : (t : Bool) → nat_eq x.opcode 72 ≡ t → t ≡ true → result_of x ≡ None
    by_second true f g = ap (λ n. result_of (inst n x.operands)) (eq_told x.opcode 72 f) ∙ member_none x.operands
    by_second false f g = absurd (cc)

    by_first : (t : Bool) → nat_eq x.opcode 71 ≡ t → (t || nat_eq x.opcode 72) ≡ true → result_of x ≡ None
    by_first true f g = ap (λ n. result_of (inst n x.operands)) (eq_told x.opcode 71 f) ∙ decorate_none x.operands
    by_first false f g = by_second (nat_eq x.opcode 72) refl g

pub void_is : result_of (inst 19 (2 ∷ [])) ≡ Some 2
unfolding result_of shape_of
void_is = refl

pub function_type_is : result_of (inst 33 (3 ∷ 2 ∷ [])) ≡ Some 3
unfolding result_of shape_of
function_type_is = refl

pub function_is : result_of (inst 54 (2 ∷ 1 ∷ 0 ∷ 3 ∷ [])) ≡ Some 1
unfolding result_of shape_of
function_is = refl

words_is : (p : Program) (ids : Global → ℕ) (id r : ℕ) (b : Bool) → result_of (words_declaration p ids id b r) ≡ Some id
unfolding result_of shape_of
words_is p ids id r true = refl
words_is p ids id r false = refl

pub declaration_is : (p : Program) (ids : Global → ℕ) (id : ℕ) (g : Global) → result_of (declaration p ids id g) ≡ Some id
unfolding result_of shape_of
declaration_is p ids id (Plain sort.Int) = refl
declaration_is p ids id (Plain sort.Bool) = refl
declaration_is p ids id (Plain sort.Triple) = refl
declaration_is p ids id (Plain sort.Row) = refl
declaration_is p ids id (Plain (sort.Words r)) = words_is p ids id r (rowed p r)
declaration_is p ids id (Plain (sort.Block r)) = refl
declaration_is p ids id (Plain (sort.Array a)) = refl
declaration_is p ids id (Pointer s to) = refl
declaration_is p ids id (Number n) = refl
declaration_is p ids id (Truth true) = refl
declaration_is p ids id (Truth false) = refl
declaration_is p ids id (Input b) = refl
declaration_is p ids id (Buffer r) = refl
declaration_is p ids id (Shared a) = refl

variable_is : (type id class start : ℕ) → result_of (inst 59 (type ∷ id ∷ class ∷ start ∷ [])) ≡ Some id
unfolding result_of shape_of
variable_is type id class start = refl

pub declarations_at : (p : Program) (ids : Global → ℕ) (n : ℕ) (table : List Global) (k : ℕ) (i : Inst) → slice_get (declarations p ids n table) k ≡ Some i → (result_of i ≡ Some (n + k)) × (k < length table)
declarations_at p ids n [] k i e = absurd (cc)
declarations_at p ids n (g ∷ table) zero i e =
    let same : n ≡ n + 0 = omega arith in
    (ap result_of (inj (sym e)) ∙ declaration_is p ids n g ∙ ap (λ m. Some m) same, omega arith)
declarations_at p ids n (g ∷ table) (suc k) i e =
    let rest = declarations_at p ids (suc n) table k i e in
    let same : suc n + k ≡ n + suc k = omega arith in
    let less : k < length table = rest.1 in
    (rest.0 ∙ ap (λ m. Some m) same, omega (arith, less))

pub slots_at : (ids : Global → ℕ) (n : ℕ) (slots : List Slot) (k : ℕ) (i : Inst) → slice_get (slot_variables ids n slots) k ≡ Some i → (result_of i ≡ Some (n + k)) × (k < length slots)
slots_at ids n [] k i e = absurd (cc)
slots_at ids n (s ∷ slots) zero i e =
    let same : n ≡ n + 0 = omega arith in
    (ap result_of (inj (sym e)) ∙ variable_is _ n 7 _ ∙ ap (λ m. Some m) same, omega arith)
slots_at ids n (s ∷ slots) (suc k) i e =
    let rest = slots_at ids (suc n) slots k i e in
    let same : suc n + k ≡ n + suc k = omega arith in
    let less : k < length slots = rest.1 in
    (rest.0 ∙ ap (λ m. Some m) same, omega (arith, less))
