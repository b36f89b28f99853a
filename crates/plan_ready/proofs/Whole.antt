-- Each block of a program that is reached is ready.
use Rattle.std.proofs.Common.{◌≡◌, ℕ, zero, suc, ◌+◌, ◌<◌, Bool, true, false, List, [], ◌∷◌, ◌++◌, length, Some, None, refl, sym, ap, ◌∙◌, subst, arith, inl, inr, ⊎_elim}
use Rattle.std.specs.Prelude.{◌⊎◌, nat_eq, slice_get, map, Contains, if◌then◌else◌}
use Rattle.std.proofs.lemmas.Option.{slice_get_within}
use Rattle.dxil_form.specs.declared.value.Ty.{Ty}
use Rattle.dxil_form.specs.declared.value.Ty.TheVariants as ty
use Rattle.dxil_form.specs.declared.value.Reg.{Reg}
use Rattle.dxil_form.specs.declared.value.Operand.{Operand}
use Rattle.dxil_form.specs.declared.value.Operand.TheVariants as operand
use Rattle.dxil_form.specs.declared.block.Entry.{Entry}
use Rattle.dxil_form.specs.declared.block.Phi.{Phi}
use Rattle.dxil_form.specs.declared.block.Block.{Block}
use Rattle.dxil_form.specs.declared.block.Term.{Term}
use Rattle.dxil_form.specs.declared.block.Term.TheVariants.{Ret, Unreachable, Go, If, Switch}
use Rattle.dxil_form.specs.Branches.{has, targets, targets_in, branches, declared_graph}
use Rattle.dxil_form.specs.Graphs.{In, Reached}
use Rattle.dxil_form.specs.Registers.{Spot, At_phi, At_line, Sets, by_entry, by_end, term_operands, typed}
use Rattle.dxil_form.specs.Sound.{HasType, PhiAt}
use Rattle.spirv_code.specs.declared.key.Global.{Global}
use Rattle.spirv_code.specs.declared.key.Slot.{Slot}
use Rattle.spirv_code.specs.declared.way.Way.{Way}
use Rattle.spirv_code.specs.declared.way.Way.TheVariants.{Ends, Goes, Chooses, Splits}
use Rattle.spirv_code.specs.Plans.{kept, context_of}
use Rattle.spirv_code.specs.Reads.{Env, no_register}
use Rattle.spirv_code.specs.Leaves.{add_new, next_blocks, entry_operand, phis_of, group_code, group_env, block_env, way_of}
use Rattle.spirv_code.specs.Exits.{tested}
use Rattle.spirv_code.specs.Needed.{operand_keys, entries_keys, phi_keys, phis_keys, lines_keys, tested_keys, end_keys, block_keys}
use Rattle.spirv_code.specs.Further.{named_all, lines_slots, end_slots, behind_lines}
use Rattle.line_runs.specs.Held.{Setting}
use Rattle.line_runs.specs.Ready.{CanRead, Ready}
use Rattle.line_runs.proofs.Tests.{none_some, some_inj, true_false, nat_eq-refl}
use Rattle.leaf_runs.specs.BlockReady.{HasVariable, PhiReady, EdgeReady, TestedReady, WayReady, BlockReady}
use Rattle.leaf_runs.specs.Laws.{setting_of}
use Rattle.leaf_runs.proofs.Targets.{Next_block, in_has, next_block}
use Rattle.plan_ready.specs.Planned.{PlansAreReady}
use Rattle.plan_ready.proofs.Among.{Among, among_front, among_back}
use Rattle.plan_ready.proofs.Base.{Base, base_of}
use Rattle.plan_ready.proofs.Operands.{AllUsed, needs_of, can_by_slot, variable_of}
use Rattle.plan_ready.proofs.Following.{Followed, follow}

-- ---- phis

-- the register of a phi is set with its type alone
phi_set : (s : Setting) → Base s → (b n : ℕ) (phi : Phi) → PhiAt s.program b n phi → (c : ℕ) (spot : Spot) (u : Ty) → Sets s.program c spot phi.to u → u ≡ phi.ty
phi_set s base b n phi at c (At_line m) u sets =
    let here : Sets s.program b (At_phi n) phi.to phi.ty = record { block = at.block; stands = at.stands; sets = (phi, at.line, refl, refl) } in
    let same = base.sound.set_once c b (At_line m) (At_phi n) phi.to u phi.ty sets here in
    absurd (line_phi m n same.1)
  where
    line_phi : (m n : ℕ) → At_line m ≡ At_phi n → ⊥
    line_phi m n e = absurd (cc)
phi_set s base b n phi at c (At_phi m) u sets =
    let here : Sets s.program b (At_phi n) phi.to phi.ty = record { block = at.block; stands = at.stands; sets = (phi, at.line, refl, refl) } in
    let same = base.sound.set_once c b (At_phi m) (At_phi n) phi.to u phi.ty sets here in
    let spot : At_phi m ≡ At_phi n = same.1 in
    let m_is : m ≡ n = cc in
    let block_is : sets.block ≡ at.block = some_inj (sym sets.stands ∙ ap (slice_get s.program.blocks) same.0 ∙ at.stands) in
    let phi_is : sets.sets.0 ≡ phi = some_inj (sym sets.sets.1 ∙ ap (λ (x : Block). slice_get x.phis m) block_is ∙ ap (slice_get at.block.phis) m_is ∙ at.line) in
    sym sets.sets.3 ∙ ap (λ (f : Phi). f.ty) phi_is

phi_ready : (s : Setting) → Base s → (b n : ℕ) (phi : Phi) → PhiAt s.program b n phi → PhiReady s phi
phi_ready s base b n phi at =
    record { next = base.next b n phi at; own = base.own b n phi at; one = record { one = phi_set s base b n phi at } }

-- ---- entries

-- the first entry of a block, where there is one
record Entry_of (from : ℕ) (type : Ty) (entries : List Entry) : Type 0 where
  entry : Entry
  k : ℕ
  at : slice_get entries k ≡ Some entry
  is : entry_operand from type entries ≡ entry.value

entry_later : (from : ℕ) (type : Ty) (x : Entry) (entries : List Entry) (k : ℕ) (e : Entry) → slice_get (x ∷ entries) k ≡ Some e → e.from ≡ from → ((k : ℕ) → slice_get entries k ≡ Some e → Entry_of from type entries) → nat_eq x.from from ≡ false → Entry_of from type entries
entry_later from type x entries zero e at is rest other =
    let same : nat_eq x.from from ≡ nat_eq e.from from = ap (λ (y : Entry). nat_eq y.from from) (some_inj at) in
    absurd (true_false (sym (ap (nat_eq e.from) (sym is) ∙ nat_eq-refl e.from) ∙ sym same ∙ other))
entry_later from type x entries (suc k) e at is rest other = rest k at

entry_of : (from : ℕ) (type : Ty) (entries : List Entry) (k : ℕ) (e : Entry) → slice_get entries k ≡ Some e → e.from ≡ from → Entry_of from type entries
entry_of from type [] k e at is = absurd (none_some at)
entry_of from type (x ∷ entries) k e at is = by_test (nat_eq x.from from) refl (entry_later from type x entries k e at is (λ k at. entry_of from type entries k e at is))
  where
    by_test : (b : Bool) → nat_eq x.from from ≡ b → (nat_eq x.from from ≡ false → Entry_of from type entries) → Entry_of from type (x ∷ entries)
    by_test true here later = record { entry = x; k = 0; at = refl; is = ap (λ b. if b then x.value else entry_operand from type entries) here }
    by_test false other later =
        let rest = later other in
        record { entry = rest.entry; k = suc rest.k; at = rest.at; is = ap (λ b. if b then x.value else entry_operand from type entries) other ∙ rest.is }

entries_among : (entries : List Entry) (k : ℕ) (e : Entry) (g : Global) → slice_get entries k ≡ Some e → Among g (operand_keys e.value) → Among g (entries_keys entries)
entries_among [] k e g at h = absurd (none_some at)
entries_among (x ∷ entries) zero e g at h =
    among_front g (operand_keys x.value) (entries_keys entries) (subst (λ (y : Entry). Among g (operand_keys y.value)) (sym (some_inj at)) h)
entries_among (x ∷ entries) (suc k) e g at h =
    among_back g (operand_keys x.value) (entries_keys entries) (entries_among entries k e g at h)

phis_among : (phis : List Phi) (n : ℕ) (phi : Phi) (g : Global) → slice_get phis n ≡ Some phi → Among g (phi_keys phi) → Among g (phis_keys phis)
phis_among [] n phi g at h = absurd (none_some at)
phis_among (x ∷ phis) zero phi g at h =
    among_front g (phi_keys x) (phis_keys phis) (subst (λ y. Among g (phi_keys y)) (sym (some_inj at)) h)
phis_among (x ∷ phis) (suc n) phi g at h = among_back g (phi_keys x) (phis_keys phis) (phis_among phis n phi g at h)

-- ---- next blocks are targets

seen_or_new : (ks seen : List ℕ) (x : ℕ) → In x (add_new seen ks) → (In x seen) ⊎ (In x ks)
seen_or_new [] seen x h = inl h
seen_or_new (k ∷ ks) seen x h = ⊎_elim (by_test (has k seen)) (λ later. inr (inr later)) (seen_or_new ks (if has k seen then seen else seen ++ k ∷ []) x h)
  where
    last : (seen : List ℕ) → In x (seen ++ k ∷ []) → (In x seen) ⊎ (In x (k ∷ ks))
    last [] (inl e) = inr (inl e)
    last [] (inr none) = absurd none
    last (y ∷ seen) (inl e) = inl (inl e)
    last (y ∷ seen) (inr h) = ⊎_elim (λ h. inl (inr h)) (λ h. inr h) (last seen h)

    by_test : (b : Bool) → In x (if b then seen else seen ++ k ∷ []) → (In x seen) ⊎ (In x (k ∷ ks))
    by_test true h = inl h
    by_test false h = last seen h

next_target : (term : Term) (k : ℕ) → In k (next_blocks term) → In k (targets term)
next_target term k h = ⊎_elim (λ none. absurd none) (λ h. h) (seen_or_new (targets term) [] k h)

-- ---- a block

module _ (s : Setting) (base : Base s) (b : ℕ) (block : Block) (stands : slice_get s.program.blocks b ≡ Some block) (reached : Reached (declared_graph s.program) b) where
  used : AllUsed s (block_keys s.program base.wants block)
  used g h d = base.keys b block g reached stands h d

  lines_used : AllUsed s (lines_keys s.program block.instrs)
  lines_used g h d = used g (among_back g (phis_keys block.phis) _ (among_front g (lines_keys s.program block.instrs) (end_keys base.wants block.term) h)) d

  tested_used : AllUsed s (tested_keys (tested block.term))
  tested_used g h d = used g (among_back g (phis_keys block.phis) _ (among_back g (lines_keys s.program block.instrs) (end_keys base.wants block.term) (among_front g (tested_keys (tested block.term)) _ h))) d

  lines_follow : (place : ℕ) → Followed s base b block stands (group_env s.context no_register place block.phis) 0 (place + length (group_code s.context place block.phis)) false block.instrs
  lines_follow place =
      follow s base b block stands block.instrs (group_env s.context no_register place block.phis) 0 (place + length (group_code s.context place block.phis)) false refl (λ e k reg type lt sets. absurd (omega (arith, lt))) (λ slot h. base.further b block slot stands (among_front slot (lines_slots false block.instrs) _ h)) lines_used

  -- ---- what it leaves for the phis of its next blocks

  edge_ready : (env : Env) (k n : ℕ) (phi : Phi) → In k (next_blocks block.term) → slice_get (phis_of (slice_get s.context.blocks k)) n ≡ Some phi → EdgeReady s env b phi
  edge_ready env k n phi is_next at =
      record {
        next = base.next k n phi phi_at;
        entry = subst (λ a. Ready s env a phi.ty) (sym found.is) (record {
          typed = typed_entry;
          needs = needs_of s found.entry.value (λ g h d. base.keys k target.block g target.reached target.stands (among_front g (phis_keys target.block.phis) _ (phis_among target.block.phis n phi g line (inr (entries_among phi.entries found.k found.entry g found.at h)))) d);
          can = can_by_slot s env found.entry.value (λ reg type e. variable_of s base k target.block target.stands reg type (entry_reg reg type e) (by_entry k n found.k target.block phi found.entry type target.stands line found.at e));
        });
      }
    where
      target : Next_block s.program k
      target = next_block s.program base.sound b k block reached stands (next_target block.term k is_next)

      line : slice_get target.block.phis n ≡ Some phi
      line = ap (λ o. slice_get (phis_of o) n) (sym (ap (λ bs. slice_get bs k) base.blocks ∙ target.stands)) ∙ at

      phi_at : PhiAt s.program k n phi
      phi_at = record { block = target.block; stands = target.stands; line = line }

      branch : branches s.program b k ≡ true
      branch = ap (λ o. has k (targets_in o)) stands ∙ in_has k (targets block.term) (next_target block.term k is_next)

      found : Entry_of b phi.ty phi.entries
      found =
          let e = (base.sound.entries k n phi phi_at).all b branch in
          entry_of b phi.ty phi.entries e.0 e.1 e.2 e.3

      typed_entry : HasType s.program found.entry.value phi.ty
      typed_entry = base.sound.entry_types k n found.k phi found.entry phi_at found.at

      entry_reg : (reg : Reg) (type : Ty) → found.entry.value ≡ operand.Reg reg type → HasType s.program (operand.Reg reg type) type
      entry_reg reg type e =
          let own = subst (λ a. HasType s.program a phi.ty) e typed_entry in
          (refl, own.1)

  -- ---- what its terminator tests

  -- an operand of the terminator
  test_ready : (place : ℕ) (term : Term) (a : Operand) (type : Ty) → block.term ≡ term → term_operands term ≡ typed a type ∷ [] → AllUsed s (operand_keys a) → Ready s (block_env s.context place block) a type
  test_ready place term a type is operands keys =
      record { typed = has_type; needs = needs_of s a keys; can = can a has_type refl }
    where
      has_type : HasType s.program a type
      has_type = base.sound.end_types b 0 term (typed a type) (record { block = block; stands = stands; ends = is }) (ap (λ xs. slice_get xs 0) operands)

      -- whether an access stands before the end
      behind : Bool
      behind = behind_lines false block.instrs

      slots : (c : Bool) → behind ≡ c → (slot : Slot) → c ≡ true → Among slot (named_all (a ∷ [])) → HasVariable s slot
      slots c is_c slot passed h = base.further b block slot stands (among_back slot (lines_slots false block.instrs) (end_slots behind block.term) (subst (λ x. Among slot (if x then named_all (map (λ y. y.item) (term_operands block.term)) else [])) (sym (is_c ∙ passed)) (subst (λ ts. Among slot (named_all (map (λ y. y.item) ts))) (sym (ap term_operands is ∙ operands)) h)))

      can : (x : Operand) → HasType s.program x type → a ≡ x → CanRead s (block_env s.context place block) x
      can (operand.Int n) of same = tt
      can (operand.Bool n) of same = tt
      can (operand.Undef t) of same = tt
      can (operand.Reg reg own) of same = λ unknown none. by_behind unknown none behind refl
        where
          by_behind : block_env s.context place block reg ≡ None → s.context.slot (kept reg own) ≡ None → (c : Bool) → behind ≡ c → ⊥
          by_behind unknown none true is_c =
              let v = slots true is_c (kept reg own) refl (subst (λ x. Among (kept reg own) (named_all (x ∷ []))) (sym same) (inl refl)) in
              none_some (sym none ∙ v.1)
          by_behind unknown none false is_c =
              let v = variable_of s base b block stands reg own (refl, of.1) (by_end b block type own stands (subst (λ ts. Contains ts (typed (operand.Reg reg own) type)) (sym (ap term_operands is ∙ operands)) (0, omega arith, ap (λ x. typed x type) same)) (λ k t sets. (let lt : k < length block.instrs = slice_get_within block.instrs k sets.0 sets.1 in (lines_follow place).known is_c k reg t (omega (arith, lt)) sets unknown))) in
              none_some (sym none ∙ v.1)

  tested_ready : (place : ℕ) (term : Term) → block.term ≡ term → TestedReady s (block_env s.context place block) term
  tested_ready place Ret is = tt
  tested_ready place Unreachable is = tt
  tested_ready place (Go k) is = tt
  tested_ready place (If cond there other) is =
      test_ready place (If cond there other) cond ty.Bool is refl (subst (λ t. AllUsed s (tested_keys (tested t))) is tested_used)
  tested_ready place (Switch value default cases) is =
      test_ready place (Switch value default cases) value ty.Int is refl (subst (λ t. AllUsed s (tested_keys (tested t))) is tested_used)

  way_ready : (place : ℕ) (way : Way) → WayReady s (block_env s.context place block) block.term way
  way_ready place Ends = tt
  way_ready place (Goes k) = tt
  way_ready place Chooses = tested_ready place block.term refl
  way_ready place Splits = tested_ready place block.term refl

  pub block_ready : (place : ℕ) → BlockReady s b block place
  block_ready place =
      record {
        phis = λ n phi at. phi_ready s base b n phi (record { block = block; stands = stands; line = at });
        lines = (lines_follow place).steps;
        nexts = λ k n phi is_next at. edge_ready (block_env s.context place block) k n phi is_next at;
        way = way_ready place (way_of block.term);
      }

pub plans_are_ready : PlansAreReady
plans_are_ready p list wants plan sound wired has table m at l b block place reached stands =
    block_ready (setting_of p m at (context_of p plan) plan.table l) (base_of p list wants plan sound wired has table m at l) b block stands reached place
