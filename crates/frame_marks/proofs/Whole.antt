-- The variables of a module are decorated as they have to be.
use Rattle.std.proofs.Common.{◌≡◌, ◌⊎◌, ⊎_elim, ℕ, zero, suc, ◌+◌, ◌<◌, Bool, true, false, List, [], ◌∷◌, ◌++◌, length, Some, None, refl, sym, ap, ◌∙◌, subst, arith}
use Rattle.std.specs.Prelude.{slice_get, nat_lt, ◌==◌, ◌&&◌, ◌||◌}
use Rattle.std.specs.Option.{option_map_or}
use Rattle.dxil_form.specs.declared.program.Program.{Program}
use Rattle.dxil_form.specs.declared.region.Region.{Region}
use Rattle.dxil_form.specs.Sound.{Sound}
use Rattle.dxil_form.specs.Wired.{Wired}
use Rattle.spv_form.specs.declared.module.Inst.{Inst}
use Rattle.spv_form.specs.declared.module.Version.{Version}
use Rattle.spv_ids.specs.Roles.{operand}
use Rattle.decoration_rules.specs.Decorations.{marks_of}
use Rattle.decoration_rules.specs.Variables.{is_buffer, seat_of, is_at, crowd, crowd_among, is_block_of_array, is_sound_buffer, is_sound}
use Rattle.spirv_meaning.specs.Bindings.{Bindings, AreApart}
use Rattle.spirv_code.specs.declared.key.Sort.TheVariants as sort
use Rattle.spirv_code.specs.declared.key.Storage.TheVariants as storage
use Rattle.spirv_code.specs.declared.key.Global.{Global}
use Rattle.spirv_code.specs.declared.key.Global.TheVariants.{Plain, Pointer, Number, Truth, Input, Buffer, Shared}
use Rattle.spirv_code.specs.declared.key.Slot.{Slot}
use Rattle.spirv_code.specs.Keys.{storage_class, index_of, has_key}
use Rattle.spirv_code.specs.Plans.{Plan, inst, slots_from, table_from, global_id}
use Rattle.spirv_code.specs.Trees.{root_of}
use Rattle.spirv_code.specs.Further.{wants}
use Rattle.spirv_code.specs.Needed.{slots_keys, want_keys, regions_keys}
use Rattle.spirv_code.specs.Frame.{rowed, words_declaration, buffer_storage, set_of, binding_of, head, names, declaration, declarations, slot_variables, closing, insts_of}
use Rattle.line_runs.proofs.Tests.{true_false}
use Rattle.frame_facts.specs.Serves.{Serves}
use Rattle.frame_facts.specs.Inner.{Owns}
use Rattle.frame_facts.proofs.Searches.{Each, each_append, each_weaker, each_at, inj, if_so, if_not}
use Rattle.frame_facts.proofs.Tabled.{global_self}
use Rattle.frame_facts.proofs.Tables.{key_stands}
use Rattle.frame_facts.proofs.Labels.{get_either}
use Rattle.frame_facts.proofs.Spread.{body, ending, decs, decls, variables, from_function, from_types, from_names, is_spread, names_each}
use Rattle.frame_facts.proofs.Wiring.{root_owned}
use Rattle.module_form.proofs.Gathered.{is_inner, is_decoration, decorations_each, body_each}
use Rattle.buffer_form.proofs.Standing.{has_at}
use Rattle.buffer_form.proofs.Fitting.{KeysFit, fit_at, table_fits}
use Rattle.module_formed.proofs.Counting.{Distinct, distinct_all}
use Rattle.chosen_plan.specs.IsPlan.{IsPlan}
use Rattle.frame_apart.proofs.Whole.{distinct_place, Declared, declared_back}
use Rattle.frame_marks.specs.Laws.{ModulesKeepMarks}
use Rattle.frame_marks.proofs.Finding.{at_most_one}
use Rattle.frame_marks.proofs.Marked.{input_marked, block_is, seat_is}

-- ---- what is no variable that has decorations

record Bare (x : Inst) : Type 0 where
  no_buffer : is_buffer x ≡ false
  no_input : (x.opcode == 59 && operand x 2 == 1) ≡ false

bare_sound : (all : List Inst) (x : Inst) → Bare x → is_sound all x ≡ true
unfolding is_sound
bare_sound all x h = if_not _ h.no_buffer _ _ ∙ if_not _ h.no_input _ _

no_variable : (x : Inst) → (x.opcode == 59) ≡ false → Bare x
unfolding is_buffer
no_variable x e = record { no_buffer = ap (λ b. b && (operand x 2 == 2 || operand x 2 == 12)) e; no_input = ap (λ b. b && operand x 2 == 1) e }

decoration_not_variable : (n : ℕ) → is_decoration n ≡ true → (n == 59) ≡ false
decoration_not_variable n e = grind arith

inner_not_variable : (n : ℕ) → is_inner n ≡ true → (n == 59) ≡ false
inner_not_variable n e = grind arith

local_bare : (type id start : ℕ) → Bare (inst 59 (type ∷ id ∷ 7 ∷ start ∷ []))
unfolding is_buffer
local_bare type id start = record { no_buffer = refl; no_input = refl }

shared_bare : (type id : ℕ) → Bare (inst 59 (type ∷ id ∷ 4 ∷ []))
unfolding is_buffer
shared_bare type id = record { no_buffer = refl; no_input = refl }

words_bare : (p : Program) (key : Global → ℕ) (id r : ℕ) (b : Bool) → Bare (words_declaration p key id b r)
words_bare p key id r true = no_variable _ refl
words_bare p key id r false = no_variable _ refl

-- ---- pairs

pair_same : (a b : ℕ × ℕ) → a.0 ≡ b.0 → a.1 ≡ b.1 → a ≡ b
pair_same (a, b) (c, d) e f = ap (λ x. (x, b)) e ∙ ap (λ y. (c, y)) f

get_there : {A : Type 0} (xs : List A) (i : ℕ) → i < length xs → (x : A) × (slice_get xs i ≡ Some x)
get_there [] i low = absurd (omega (arith, low))
get_there (x ∷ xs) zero low = (x, refl)
get_there (x ∷ xs) (suc i) low = get_there xs i (omega (arith, low))

get_below : {A : Type 0} (xs : List A) (i : ℕ) (x : A) → slice_get xs i ≡ Some x → i < length xs
get_below [] i x e = absurd (cc)
get_below (y ∷ xs) zero x e = omega arith
get_below (y ∷ xs) (suc i) x e = let low = get_below xs i x e in omega (arith, low)

seat_told : (seat q : ℕ × ℕ) → is_at seat (Some q) ≡ true → (q.0 ≡ seat.0) × (q.1 ≡ seat.1)
seat_told seat q e = both (q.0 == seat.0) (q.1 == seat.1) refl refl e
  where
    told : (a b : ℕ) → (a == b) ≡ true → a ≡ b
    told a b e = grind arith

    both : (a b : Bool) → (q.0 == seat.0) ≡ a → (q.1 == seat.1) ≡ b → (a && b) ≡ true → (q.0 ≡ seat.0) × (q.1 ≡ seat.1)
    both true true f g h = (told q.0 seat.0 f, told q.1 seat.1 g)
    both true false f g h = absurd (true_false (sym h))
    both false b f g h = absurd (true_false (sym h))

few : (n : ℕ) → n < 2 → nat_lt n 2 ≡ true
few n low = grind arith

-- ---- the module

module _ (p : Program) (list : List Region) (at : Bindings) (v : Version) (plan : Plan) (sound : Sound p) (w : Wired p list) (is_plan : IsPlan p list plan) (apart : AreApart p at) where
  abbrev whole : List Inst
  whole = insts_of p list at v plan

  abbrev ids : Global → ℕ
  ids = global_id plan

  abbrev n : ℕ
  n = table_from plan

  serves : Serves p list plan
  serves = is_plan.serves

  distinct : Distinct plan.table
  distinct =
      subst Distinct (sym is_plan.table) (distinct_all p [] (slots_keys plan.slots ++ (want_keys p (wants p list) ++ regions_keys p (wants p list) list)) tt)

  fits : KeysFit p plan.table
  fits = subst (KeysFit p) (sym is_plan.table) (table_fits p sound list (wants p list) plan.slots)

  owned : Owns (λ r. r < plan.regions) (root_of list)
  owned = subst (λ n. Owns (λ r. r < n) (root_of list)) (sym serves.regions) (root_owned p list w)

  has : (k : ℕ) (g : Global) → slice_get plan.table k ≡ Some g → has_key plan.table g ≡ true
  has k g e = has_at plan.table k g (global_self g) e

  own_id : (k : ℕ) (g : Global) → slice_get plan.table k ≡ Some g → ids g ≡ n + k
  own_id k g e = ap (λ i. n + i) (distinct_place plan.table (index_of plan.table g) k g distinct (key_stands plan.table g (has k g e)) e)

  -- ---- all but declarations

  locals_bare : (k : ℕ) (slots : List Slot) → Each Bare (slot_variables ids k slots)
  locals_bare k [] = tt
  locals_bare k (s ∷ slots) = (local_bare _ k _, locals_bare (suc k) slots)

  ending_bare : Each Bare (ending p list at v plan)
  ending_bare =
      each_append Bare (body p list at v plan) closing (each_weaker (λ x. is_inner x.opcode ≡ true) Bare (λ x e. no_variable x (inner_not_variable x.opcode e)) (body p list at v plan) (body_each p list at v plan owned)) (no_variable _ refl, (no_variable _ refl, tt))

  function_bare : Each Bare (from_function p list at v plan)
  function_bare =
      (no_variable _ refl, (no_variable _ refl, each_append Bare (variables p list at v plan) (ending p list at v plan) (locals_bare (slots_from plan) plan.slots) ending_bare))

  head_bare : Each Bare (head p v plan)
  head_bare = (no_variable _ refl, (no_variable _ refl, (no_variable _ refl, (no_variable _ refl, tt))))

  names_bare : Each Bare (names 0 list)
  names_bare = names_each p list at v plan 0 list Bare (λ operands. no_variable _ refl)

  decs_bare : Each Bare (decs p list at v plan)
  decs_bare =
      each_weaker (λ x. is_decoration x.opcode ≡ true) Bare (λ x e. no_variable x (decoration_not_variable x.opcode e)) (decs p list at v plan) (decorations_each p at n plan.table)

  -- where the declarations begin
  abbrev start : ℕ
  start = length (head p v plan) + (length (names 0 list) + (length (decs p list at v plan) + 2))

  -- an instruction is bare, or it declares a key
  data Place (j : ℕ) (x : Inst) : Type 0 where
    bare : Bare x → Place j x
    key : (k : ℕ) → j ≡ start + k → Declared p ids n k plan.table x → Place j x

  type_place : (j k : ℕ) (x : Inst) → j ≡ length (head p v plan) + (length (names 0 list) + (length (decs p list at v plan) + k)) → slice_get (from_types p list at v plan) k ≡ Some x → Place j x
  type_place j zero x place e = bare (subst Bare (inj e) (no_variable _ refl))
  type_place j (suc zero) x place e = bare (subst Bare (inj e) (no_variable _ refl))
  type_place j (suc (suc k)) x place e =
      ⊎_elim (λ f. key k (omega (arith, place)) (declared_back p ids n plan.table k x f)) (λ r. bare (each_at Bare (from_function p list at v plan) r.0 x function_bare r.2)) (get_either (decls p list at v plan) (from_function p list at v plan) k x e)

  placed : (j : ℕ) (x : Inst) → slice_get whole j ≡ Some x → Place j x
  placed j x e =
      ⊎_elim (λ f. bare (each_at Bare (head p v plan) j x head_bare f)) (λ r. ⊎_elim (λ f. bare (each_at Bare (names 0 list) r.0 x names_bare f)) (λ q. ⊎_elim (λ f. bare (each_at Bare (decs p list at v plan) q.0 x decs_bare f)) (λ t. type_place j t.0 x (let a = r.1 in let b = q.1 in let c = t.1 in omega (arith, a, b, c)) t.2) (get_either (decs p list at v plan) (from_types p list at v plan) q.0 x q.2)) (get_either (names 0 list) (decs p list at v plan ++ from_types p list at v plan) r.0 x r.2)) (get_either (head p v plan) (from_names p list at v plan) j x (ap (λ xs. slice_get xs j) (sym (is_spread p list at v plan)) ∙ e))

  -- ---- the buffers

  buffer_seat : (k r : ℕ) → slice_get plan.table k ≡ Some (Buffer r) → seat_of whole (declaration p ids (n + k) (Buffer r)) ≡ Some (set_of (slice_get at r), binding_of (slice_get at r))
  buffer_seat k r e = seat_is p list at v plan w serves owned k r e (has k (Buffer r) e) (own_id k (Buffer r) e)

  -- a variable that is seated is that of a buffer, with its set and its binding
  record Seated (j : ℕ) (seat : ℕ × ℕ) : Type 0 where
    k : ℕ
    r : ℕ
    place : j ≡ start + k
    stands : slice_get plan.table k ≡ Some (Buffer r)
    set_is : set_of (slice_get at r) ≡ seat.0
    binding_is : binding_of (slice_get at r) ≡ seat.1

  bare_seat : (x : Inst) → Bare x → seat_of whole x ≡ None
  unfolding seat_of
  bare_seat x h = if_not _ h.no_buffer _ _

  no_seat : (x : Inst) → is_buffer x ≡ false → seat_of whole x ≡ None
  unfolding seat_of
  no_seat x h = if_not _ h _ _

  key_seated : (j k : ℕ) (seat : ℕ × ℕ) (g : Global) → j ≡ start + k → slice_get plan.table k ≡ Some g → is_at seat (seat_of whole (declaration p ids (n + k) g)) ≡ true → Seated j seat
  unfolding is_buffer
  key_seated j k seat (Buffer r) place e t =
      let told = seat_told seat (set_of (slice_get at r), binding_of (slice_get at r)) (sym (ap (is_at seat) (buffer_seat k r e)) ∙ t) in
      record { k = k; r = r; place = place; stands = e; set_is = told.0; binding_is = told.1 }
  key_seated j k seat (Plain sort.Int) place e t = absurd (true_false (sym t ∙ ap (is_at seat) (no_seat _ refl)))
  key_seated j k seat (Plain sort.Bool) place e t = absurd (true_false (sym t ∙ ap (is_at seat) (no_seat _ refl)))
  key_seated j k seat (Plain sort.Triple) place e t = absurd (true_false (sym t ∙ ap (is_at seat) (no_seat _ refl)))
  key_seated j k seat (Plain sort.Row) place e t = absurd (true_false (sym t ∙ ap (is_at seat) (no_seat _ refl)))
  key_seated j k seat (Plain (sort.Words r)) place e t = absurd (true_false (sym t ∙ ap (is_at seat) (bare_seat _ (words_bare p ids (n + k) r (rowed p r)))))
  key_seated j k seat (Plain (sort.Block r)) place e t = absurd (true_false (sym t ∙ ap (is_at seat) (no_seat _ refl)))
  key_seated j k seat (Plain (sort.Array a)) place e t = absurd (true_false (sym t ∙ ap (is_at seat) (no_seat _ refl)))
  key_seated j k seat (Pointer s to) place e t = absurd (true_false (sym t ∙ ap (is_at seat) (no_seat _ refl)))
  key_seated j k seat (Number m) place e t = absurd (true_false (sym t ∙ ap (is_at seat) (no_seat _ refl)))
  key_seated j k seat (Truth true) place e t = absurd (true_false (sym t ∙ ap (is_at seat) (no_seat _ refl)))
  key_seated j k seat (Truth false) place e t = absurd (true_false (sym t ∙ ap (is_at seat) (no_seat _ refl)))
  key_seated j k seat (Input b) place e t = absurd (true_false (sym t ∙ ap (is_at seat) (no_seat _ refl)))
  key_seated j k seat (Shared a) place e t = absurd (true_false (sym t ∙ ap (is_at seat) (no_seat _ refl)))

  seated : (seat : ℕ × ℕ) (j : ℕ) (x : Inst) → slice_get whole j ≡ Some x → is_at seat (seat_of whole x) ≡ true → Seated j seat
  seated seat j x e t = by_place (placed j x e)
    where
      by_place : Place j x → Seated j seat
      by_place (bare h) = absurd (true_false (sym t ∙ ap (is_at seat) (bare_seat x h)))
      by_place (key k place d) = key_seated j k seat d.g place d.at (ap (λ y. is_at seat (seat_of whole y)) (sym d.is) ∙ t)

  -- the pair of a resource that is named
  pair_at : (k r : ℕ) → slice_get plan.table k ≡ Some (Buffer r) → (pair : ℕ × ℕ) × (slice_get at r ≡ Some pair)
  pair_at k r e =
      let fit = fit_at p plan.table k (Buffer r) fits e in
      let low = get_below p.resources r fit.0 fit.1 in
      let same = apart.one_each in
      get_there at r (omega (arith, low, same))

  one_seat : (seat : ℕ × ℕ) (i j : ℕ) → Seated i seat → Seated j seat → i ≡ j
  one_seat seat i j a b =
      let (one, is) = pair_at a.k a.r a.stands in
      let (other, also) = pair_at b.k b.r b.stands in
      let sets = sym (ap set_of is) ∙ a.set_is ∙ sym b.set_is ∙ ap set_of also in
      let bindings = sym (ap binding_of is) ∙ a.binding_is ∙ sym b.binding_is ∙ ap binding_of also in
      let pairs : one ≡ other = pair_same one other sets bindings in
      let resources : a.r ≡ b.r = apart.apart a.r b.r other (is ∙ ap Some pairs) also in
      let keys : a.k ≡ b.k = distinct_place plan.table a.k b.k (Buffer b.r) distinct (a.stands ∙ ap (λ r. Some (Buffer r)) resources) b.stands in
      let here = a.place in
      let there = b.place in
      omega (arith, keys, here, there)

  uncrowded : (seat : ℕ × ℕ) → nat_lt (crowd whole seat) 2 ≡ true
  unfolding crowd
  uncrowded seat =
      few (crowd_among whole whole seat) (at_most_one (λ x. is_at seat (seat_of whole x)) whole (λ i j x y e f t u. one_seat seat i j (seated seat i x e t) (seated seat j y f u)))

  buffer_sound : (k r : ℕ) → slice_get plan.table k ≡ Some (Buffer r) → is_sound_buffer whole (declaration p ids (n + k) (Buffer r)) ≡ true
  buffer_sound k r e =
      let type : ℕ = ids (Pointer (buffer_storage (rowed p r)) (sort.Block r)) in
      let seat : ℕ × ℕ = (set_of (slice_get at r), binding_of (slice_get at r)) in
      ap (λ o. option_map_or (λ s. nat_lt (crowd whole s) 2 && is_block_of_array whole type) o false) (buffer_seat k r e) ∙ ap (λ b. b && is_block_of_array whole type) (uncrowded seat) ∙ block_is p list at v plan w serves r (has k (Buffer r) e)

  -- ---- each declaration

  buffer_is : (type id : ℕ) (b : Bool) → is_buffer (inst 59 (type ∷ id ∷ storage_class (buffer_storage b) ∷ [])) ≡ true
  unfolding is_buffer
  buffer_is type id true = refl
  buffer_is type id false = refl

  key_sound : (k : ℕ) (g : Global) → slice_get plan.table k ≡ Some g → is_sound whole (declaration p ids (n + k) g) ≡ true
  unfolding is_sound is_buffer
  key_sound k (Buffer r) e = if_so _ (buffer_is (ids (Pointer (buffer_storage (rowed p r)) (sort.Block r))) (n + k) (rowed p r)) _ _ ∙ buffer_sound k r e
  key_sound k (Input b) e =
      ap (λ i. (marks_of whole i).built_in) (sym (own_id k (Input b) e)) ∙ input_marked p list at v plan w serves b (has k (Input b) e)
  key_sound k (Plain sort.Int) e = refl
  key_sound k (Plain sort.Bool) e = refl
  key_sound k (Plain sort.Triple) e = refl
  key_sound k (Plain sort.Row) e = refl
  key_sound k (Plain (sort.Words r)) e = bare_sound whole _ (words_bare p ids (n + k) r (rowed p r))
  key_sound k (Plain (sort.Block r)) e = refl
  key_sound k (Plain (sort.Array a)) e = refl
  key_sound k (Pointer s to) e = refl
  key_sound k (Number m) e = refl
  key_sound k (Truth true) e = refl
  key_sound k (Truth false) e = refl
  key_sound k (Shared a) e = bare_sound whole _ (shared_bare (ids (Pointer storage.Workgroup (sort.Array a))) (n + k))

  all_sound : (j : ℕ) (x : Inst) → slice_get whole j ≡ Some x → is_sound whole x ≡ true
  all_sound j x e = by_place (placed j x e)
    where
      by_place : Place j x → is_sound whole x ≡ true
      by_place (bare h) = bare_sound whole x h
      by_place (key k place d) = ap (is_sound whole) d.is ∙ key_sound k d.g d.at

pub modules_keep_marks : ModulesKeepMarks
modules_keep_marks p list at v plan sound w is_plan apart = all_sound p list at v plan sound w is_plan apart
