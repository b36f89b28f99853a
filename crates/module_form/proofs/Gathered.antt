-- What is gathered of the pieces of a module.
use Rattle.std.proofs.Common.{◌≡◌, ℕ, suc, ◌+◌, ◌<◌, Bool, true, false, List, [], ◌∷◌, ◌++◌, length, Option, Some, None, refl, sym, ap, ◌∙◌, append_assoc}
use Rattle.std.specs.Prelude.{nat_eq, nat_lt, nat_le, not, ◌&&◌, ◌||◌, slice_get}
use Rattle.dxil_form.specs.declared.program.Class.{Class}
use Rattle.dxil_form.specs.declared.program.Class.TheVariants.{Srv, Uav, Cbv}
use Rattle.dxil_form.specs.declared.program.Program.{Program}
use Rattle.dxil_form.specs.declared.program.Resource.{Resource}
use Rattle.dxil_form.specs.declared.region.Region.{Region}
use Rattle.spv_form.specs.declared.module.Inst.{Inst}
use Rattle.spv_form.specs.declared.module.Version.{Version}
use Rattle.spirv_meaning.specs.Bindings.{Bindings}
use Rattle.spirv_code.specs.declared.key.Sort.TheVariants as sort
use Rattle.spirv_code.specs.declared.key.Global.{Global}
use Rattle.spirv_code.specs.declared.key.Global.TheVariants.{Plain, Pointer, Number, Truth, Input, Buffer, Shared}
use Rattle.spirv_code.specs.declared.key.Slot.{Slot}
use Rattle.spirv_code.specs.Plans.{Plan, Context, inst, context_of}
use Rattle.spirv_code.specs.Exits.{label_inst}
use Rattle.spirv_code.specs.Trees.{root_of}
use Rattle.spirv_code.specs.Frame.{rowed, head, names, decorations, decorations_of, read_only, read_only_of, words_declaration, declaration, declarations, slot_variables, opening_label, frame, closing, insts_of}
use Rattle.frame_facts.specs.Inner.{is_plain, Inner, plain, own, of_region, AreInner, Owns}
use Rattle.frame_facts.proofs.Searches.{Each, each_append, IsNot, if_not, eq_told}
use Rattle.frame_facts.proofs.Spread.{ids, body, ending, decs, decls, variables, from_types, from_names, from_function, from_slots, is_spread, body_inner}
use Rattle.module_form.specs.Form.{gather, with_opcode}

-- ---- lists

pub gather_append : {A : Type 0} (f : Inst → List A) (a b : List Inst) → gather f (a ++ b) ≡ gather f a ++ gather f b
gather_append f [] b = refl
gather_append f (i ∷ a) b =
    ap (λ xs. f i ++ xs) (gather_append f a b) ∙ sym (append_assoc (f i) (gather f a) (gather f b))

pub gather_none : {A : Type 0} (f : Inst → List A) (a : List Inst) → Each (λ i. f i ≡ []) a → gather f a ≡ []
gather_none f [] h = refl
gather_none f (i ∷ a) h = ap (λ xs. xs ++ gather f a) h.0 ∙ gather_none f a h.1

-- an opcode that passes a test is none that does not
pub apart_by : (test : ℕ → Bool) (n opcode : ℕ) → test n ≡ true → test opcode ≡ false → nat_eq n opcode ≡ false
apart_by test n opcode yes_it no_it = by_test (nat_eq n opcode) refl
  where
    by_test : (b : Bool) → nat_eq n opcode ≡ b → b ≡ false
    by_test true e =
        let clash : true ≡ false = sym yes_it ∙ ap test (eq_told n opcode e) ∙ no_it in
        absurd (cc clash)
    by_test false e = refl

-- nothing of the opcode is there
pub with_none : (opcode : ℕ) (i : Inst) → IsNot opcode i → with_opcode opcode i ≡ []
with_none opcode i e = if_not (nat_eq i.opcode opcode) e _ _

-- ---- decorations

abbrev pub is_decoration : ℕ → Bool
is_decoration n = nat_eq n 71 || nat_eq n 72

read_only_each : (id : ℕ) (o : Option Resource) → Each (λ i. is_decoration i.opcode ≡ true) (read_only_of id o)
read_only_each id None = tt
read_only_each id (Some resource) = by_class resource.class
  where
    by_class : (class : Class) → Each (λ i. is_decoration i.opcode ≡ true) (read_only id class)
    by_class Srv = (refl, tt)
    by_class Uav = tt
    by_class Cbv = tt

decoration_each : (p : Program) (at : Bindings) (id : ℕ) (g : Global) → Each (λ i. is_decoration i.opcode ≡ true) (decorations_of p at id g)
decoration_each p at id (Plain sort.Int) = tt
decoration_each p at id (Plain sort.Bool) = tt
decoration_each p at id (Plain sort.Triple) = tt
decoration_each p at id (Plain sort.Row) = tt
decoration_each p at id (Plain (sort.Words r)) = (refl, tt)
decoration_each p at id (Plain (sort.Block r)) = (refl, (refl, tt))
decoration_each p at id (Plain (sort.Array a)) = tt
decoration_each p at id (Pointer s to) = tt
decoration_each p at id (Number n) = tt
decoration_each p at id (Truth b) = tt
decoration_each p at id (Input b) = (refl, tt)
decoration_each p at id (Buffer r) = (refl, (refl, read_only_each id (slice_get p.resources r)))
decoration_each p at id (Shared a) = tt

pub decorations_each : (p : Program) (at : Bindings) (n : ℕ) (table : List Global) → Each (λ i. is_decoration i.opcode ≡ true) (decorations p at n table)
decorations_each p at n [] = tt
decorations_each p at n (g ∷ table) =
    each_append (λ i. is_decoration i.opcode ≡ true) (decorations_of p at n g) (decorations p at (suc n) table) (decoration_each p at n g) (decorations_each p at (suc n) table)

-- ---- declarations

-- types, constants and variables
abbrev pub is_declaration : ℕ → Bool
is_declaration n = nat_le 20 n && nat_le n 43 || nat_eq n 59

words_test : (p : Program) (ids : Global → ℕ) (id r : ℕ) (b : Bool) → is_declaration (words_declaration p ids id b r).opcode ≡ true
words_test p ids id r true = refl
words_test p ids id r false = refl

declaration_test : (p : Program) (ids : Global → ℕ) (id : ℕ) (g : Global) → is_declaration (declaration p ids id g).opcode ≡ true
declaration_test p ids id (Plain sort.Int) = refl
declaration_test p ids id (Plain sort.Bool) = refl
declaration_test p ids id (Plain sort.Triple) = refl
declaration_test p ids id (Plain sort.Row) = refl
declaration_test p ids id (Plain (sort.Words r)) = words_test p ids id r (rowed p r)
declaration_test p ids id (Plain (sort.Block r)) = refl
declaration_test p ids id (Plain (sort.Array a)) = refl
declaration_test p ids id (Pointer s to) = refl
declaration_test p ids id (Number n) = refl
declaration_test p ids id (Truth true) = refl
declaration_test p ids id (Truth false) = refl
declaration_test p ids id (Input b) = refl
declaration_test p ids id (Buffer r) = refl
declaration_test p ids id (Shared a) = refl

pub declarations_each : (p : Program) (ids : Global → ℕ) (n : ℕ) (table : List Global) → Each (λ i. is_declaration i.opcode ≡ true) (declarations p ids n table)
declarations_each p ids n [] = tt
declarations_each p ids n (g ∷ table) = (declaration_test p ids n g, declarations_each p ids (suc n) table)

-- ---- variables of the function

pub slots_each : (ids : Global → ℕ) (n : ℕ) (slots : List Slot) (P : Inst → Type 0) → ((operands : List ℕ) → P (inst 59 operands)) → Each P (slot_variables ids n slots)
slots_each ids n [] P h = tt
slots_each ids n (s ∷ slots) P h = (h _, slots_each ids (suc n) slots P h)

-- ---- the body

-- no declaration, no decoration and no return
abbrev pub is_inner : ℕ → Bool
is_inner n = nat_lt 60 n && (not (nat_eq n 71) && not (nat_eq n 253))

plain_inner : (n : ℕ) → is_plain n ≡ true → is_inner n ≡ true
plain_inner n e =
    by_tests (nat_lt 60 n) (not (nat_eq n 71)) (not (nat_eq n 248)) (not (nat_eq n 253)) e
  where
    by_tests : (a b c d : Bool) → (a && (b && (c && d))) ≡ true → (a && (b && d)) ≡ true
    by_tests true true true d e = e
    by_tests true true false d e = absurd (cc e)
    by_tests true false c d e = absurd (cc e)
    by_tests false b c d e = absurd (cc e)

inner_test : (c : Context) (M : ℕ → Type 0) (place : ℕ) (i : Inst) → Inner c M place i → is_inner i.opcode ≡ true
inner_test c M place i (plain e) = plain_inner i.opcode e
inner_test c M place i (own e) = ap (λ x. is_inner x.opcode) e
inner_test c M place i (of_region r kind mine few e) = ap (λ x. is_inner x.opcode) e

pub inner_each : (c : Context) (M : ℕ → Type 0) (place : ℕ) (code : List Inst) → AreInner c M place code → Each (λ i. is_inner i.opcode ≡ true) code
inner_each c M place [] h = tt
inner_each c M place (i ∷ code) h = (inner_test c M place i h.0, inner_each c M (place + 1) code h.1)

-- ---- the whole

module _ (p : Program) (list : List Region) (at : Bindings) (v : Version) (plan : Plan) where
  abbrev type_void : Inst
  type_void = inst 19 (2 ∷ [])

  abbrev type_function : Inst
  type_function = inst 33 (3 ∷ 2 ∷ [])

  abbrev begin : Inst
  begin = inst 54 (2 ∷ 1 ∷ 0 ∷ 3 ∷ [])

  abbrev first : Inst
  first = label_inst (opening_label (root_of list))

  -- what is gathered of the whole, by what is gathered of the pieces
  pub gather_spread : {A : Type 0} (f : Inst → List A) (N D L V B : List A) → gather f (names 0 list) ≡ N → gather f (decs p list at v plan) ≡ D → gather f (decls p list at v plan) ≡ L → gather f (variables p list at v plan) ≡ V → gather f (body p list at v plan) ≡ B → gather f (insts_of p list at v plan) ≡ gather f (head p v plan) ++ (N ++ (D ++ (f type_void ++ (f type_function ++ (L ++ (f begin ++ (f first ++ (V ++ (B ++ gather f closing)))))))))
  gather_spread f N D L V B n d l va b =
      ap (gather f) (is_spread p list at v plan) ∙ gather_append f (head p v plan) (from_names p list at v plan) ∙ ap (λ xs. gather f (head p v plan) ++ xs) names_part
    where
      slots_part : gather f (from_slots p list at v plan) ≡ V ++ (B ++ gather f closing)
      slots_part =
          gather_append f (variables p list at v plan) (ending p list at v plan) ∙ ap (λ xs. xs ++ gather f (ending p list at v plan)) va ∙ ap (λ xs. V ++ xs) (gather_append f (body p list at v plan) closing ∙ ap (λ xs. xs ++ gather f closing) b)

      types_part : gather f (from_types p list at v plan) ≡ f type_void ++ (f type_function ++ (L ++ (f begin ++ (f first ++ (V ++ (B ++ gather f closing))))))
      types_part =
          ap (λ xs. f type_void ++ (f type_function ++ xs)) (gather_append f (decls p list at v plan) (from_function p list at v plan) ∙ ap (λ xs. xs ++ gather f (from_function p list at v plan)) l ∙ ap (λ xs. L ++ (f begin ++ (f first ++ xs))) slots_part)

      names_part : gather f (from_names p list at v plan) ≡ N ++ (D ++ (f type_void ++ (f type_function ++ (L ++ (f begin ++ (f first ++ (V ++ (B ++ gather f closing))))))))
      names_part =
          gather_append f (names 0 list) (decs p list at v plan ++ from_types p list at v plan) ∙ ap (λ xs. xs ++ gather f (decs p list at v plan ++ from_types p list at v plan)) n ∙ ap (λ xs. N ++ xs) (gather_append f (decs p list at v plan) (from_types p list at v plan) ∙ ap (λ xs. xs ++ gather f (from_types p list at v plan)) d ∙ ap (λ xs. D ++ xs) types_part)

  module _ (mine : Owns (λ r. r < plan.regions) (root_of list)) where
    pub body_each : Each (λ i. is_inner i.opcode ≡ true) (body p list at v plan)
    body_each =
        inner_each (context_of p plan) (λ r. r < plan.regions) (length (frame p list at v plan)) (body p list at v plan) (body_inner p list at v plan (λ r. r < plan.regions) mine)
