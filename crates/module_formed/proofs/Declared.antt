-- What a module declares is formed: types, constants, variables and decorations.
use Rattle.std.proofs.Common.{◌≡◌, ℕ, zero, suc, ◌+◌, ◌<◌, Bool, true, false, List, [], ◌∷◌, length, Option, Some, None, refl, subst, arith}
use Rattle.std.specs.Prelude.{slice_get}
use Rattle.dxil_form.specs.declared.program.Class.{Class}
use Rattle.dxil_form.specs.declared.program.Class.TheVariants.{Srv, Uav, Cbv}
use Rattle.dxil_form.specs.declared.program.Resource.{Resource}
use Rattle.dxil_form.specs.declared.program.Program.{Program}
use Rattle.spv_form.specs.Formed.{IsIdBelow, IsFormedInst}
use Rattle.spirv_meaning.specs.Bindings.{Bindings}
use Rattle.spirv_code.specs.declared.key.Sort.TheVariants as sort
use Rattle.spirv_code.specs.declared.key.Storage.TheVariants as storage
use Rattle.spirv_code.specs.declared.key.Global.{Global}
use Rattle.spirv_code.specs.declared.key.Global.TheVariants.{Plain, Pointer, Number, Truth, Input, Buffer, Shared}
use Rattle.spirv_code.specs.declared.key.Slot.{Slot}
use Rattle.spirv_code.specs.Keys.{has_key}
use Rattle.spirv_code.specs.Frame.{rowed, words_needs, needs, words_declaration, declaration, declarations, read_only, read_only_of, decorations_of, decorations, slot_sort, slot_start, slot_variables}
use Rattle.frame_facts.specs.Serves.{AreKeys}
use Rattle.formed_lines.proofs.Lists.{AreFormed, join}
use Rattle.module_formed.proofs.Forms.{decoration_formed, valued_formed, member_formed, truth_formed, integer_formed, vector_formed, array_formed, endless_formed, struct_formed, pointer_formed, constant_formed, true_formed, false_formed, variable_formed, local_formed}

-- the ids from a place on, as many as there are items
abbrev pub IdsFrom : {A : Type 0} → ℕ → ℕ → List A → Type 0
IdsFrom b n xs = (k : ℕ) → k < length xs → IsIdBelow b (n + k)

pub first_id : {A : Type 0} (b n : ℕ) (x : A) (xs : List A) → IdsFrom b n (x ∷ xs) → IsIdBelow b n
first_id b n x xs h = let same : n + 0 ≡ n = omega arith in subst (IsIdBelow b) same (h 0 (omega arith))

pub rest_ids : {A : Type 0} (b n : ℕ) (x : A) (xs : List A) → IdsFrom b n (x ∷ xs) → IdsFrom b (suc n) xs
rest_ids b n x xs h k lt =
    let same : n + suc k ≡ suc n + k = omega arith in
    subst (IsIdBelow b) same (h (suc k) (omega (arith, lt)))

-- the ids of keys
abbrev AreIds : ℕ → (Global → ℕ) → List Global → Type 0
AreIds b ids [] = Unit {0}
AreIds b ids (g ∷ gs) = IsIdBelow b (ids g) × AreIds b ids gs

module _ (b : ℕ) (p : Program) (ids : Global → ℕ) where
  -- ---- declarations

  words_formed : (id r : ℕ) (t : Bool) → IsIdBelow b id → AreIds b ids (words_needs p t r) → IsFormedInst b (words_declaration p ids id t r)
  words_formed id r true own named = array_formed b _ _ _ own named.0 named.1.0
  words_formed id r false own named = endless_formed b _ _ own named.0

  declaration_formed : (id : ℕ) (g : Global) → IsIdBelow b id → AreIds b ids (needs p g) → IsFormedInst b (declaration p ids id g)
  declaration_formed id (Plain sort.Int) own named = integer_formed b _ _ _ own
  declaration_formed id (Plain sort.Bool) own named = truth_formed b _ own
  declaration_formed id (Plain sort.Triple) own named = vector_formed b _ _ _ own named.0
  declaration_formed id (Plain sort.Row) own named = vector_formed b _ _ _ own named.0
  declaration_formed id (Plain (sort.Words r)) own named = words_formed id r (rowed p r) own named
  declaration_formed id (Plain (sort.Block r)) own named = struct_formed b _ _ own named.0
  declaration_formed id (Plain (sort.Array a)) own named = array_formed b _ _ _ own named.0 named.1.0
  declaration_formed id (Pointer s to) own named = pointer_formed b _ _ _ own named.0
  declaration_formed id (Number n) own named = constant_formed b _ _ _ named.0 own
  declaration_formed id (Truth true) own named = true_formed b _ _ named.0 own
  declaration_formed id (Truth false) own named = false_formed b _ _ named.0 own
  declaration_formed id (Input i) own named = variable_formed b _ _ _ named.0 own
  declaration_formed id (Buffer r) own named = variable_formed b _ _ _ named.0 own
  declaration_formed id (Shared zero) own named = variable_formed b _ _ _ named.0 own
  declaration_formed id (Shared (suc a)) own named = variable_formed b _ _ _ named.0 own

  -- what is declared has an id
  module _ (all : List Global) (known : (g : Global) → has_key all g ≡ true → IsIdBelow b (ids g)) where
    are_ids : (gs : List Global) → AreKeys all gs → AreIds b ids gs
    are_ids [] h = tt
    are_ids (g ∷ gs) h = (known g h.0, are_ids gs h.1)

    pub declarations_formed : (n : ℕ) (table : List Global) → IdsFrom b n table → ((k : ℕ) (g : Global) → slice_get table k ≡ Some g → AreKeys all (needs p g)) → AreFormed b (declarations p ids n table)
    declarations_formed n [] own named = tt
    declarations_formed n (g ∷ table) own named =
        (declaration_formed n g (first_id b n g table own) (are_ids (needs p g) (named 0 g refl)), declarations_formed (suc n) table (rest_ids b n g table own) (λ k x e. named (suc k) x e))

    -- ---- variables of the function

    pub slots_formed : (n : ℕ) (slots : List Slot) → IdsFrom b n slots → ((k : ℕ) (s : Slot) → slice_get slots k ≡ Some s → AreKeys all (Pointer storage.Function (slot_sort s) ∷ slot_start s ∷ [])) → AreFormed b (slot_variables ids n slots)
    slots_formed n [] own named = tt
    slots_formed n (s ∷ slots) own named =
        let both = are_ids (Pointer storage.Function (slot_sort s) ∷ slot_start s ∷ []) (named 0 s refl) in
        (local_formed b _ _ _ _ both.0 (first_id b n s slots own) both.1.0, slots_formed (suc n) slots (rest_ids b n s slots own) (λ k x e. named (suc k) x e))

module _ (b : ℕ) (p : Program) (at : Bindings) where
  -- ---- decorations

  read_only_formed : (id : ℕ) (o : Option Resource) → IsIdBelow b id → AreFormed b (read_only_of id o)
  read_only_formed id None own = tt
  read_only_formed id (Some resource) own = by_class resource.class
    where
      by_class : (class : Class) → AreFormed b (read_only id class)
      by_class Srv = (decoration_formed b _ _ own, tt)
      by_class Uav = tt
      by_class Cbv = tt

  decorated_formed : (id : ℕ) (g : Global) → IsIdBelow b id → AreFormed b (decorations_of p at id g)
  decorated_formed id (Plain sort.Int) own = tt
  decorated_formed id (Plain sort.Bool) own = tt
  decorated_formed id (Plain sort.Triple) own = tt
  decorated_formed id (Plain sort.Row) own = tt
  decorated_formed id (Plain (sort.Words r)) own = (valued_formed b _ _ _ own, tt)
  decorated_formed id (Plain (sort.Block r)) own = (decoration_formed b _ _ own, (member_formed b _ _ _ _ own, tt))
  decorated_formed id (Plain (sort.Array a)) own = tt
  decorated_formed id (Pointer s to) own = tt
  decorated_formed id (Number n) own = tt
  decorated_formed id (Truth t) own = tt
  decorated_formed id (Input i) own = (valued_formed b _ _ _ own, tt)
  decorated_formed id (Buffer r) own =
      (valued_formed b _ _ _ own, (valued_formed b _ _ _ own, read_only_formed id (slice_get p.resources r) own))
  decorated_formed id (Shared a) own = tt

  pub decorations_formed : (n : ℕ) (table : List Global) → IdsFrom b n table → AreFormed b (decorations p at n table)
  decorations_formed n [] own = tt
  decorations_formed n (g ∷ table) own =
      join b (decorations_of p at n g) (decorations p at (suc n) table) (decorated_formed n g (first_id b n g table own)) (decorations_formed (suc n) table (rest_ids b n g table own))
