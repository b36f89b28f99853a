-- What a sound program has is small, and its blocks have what their code is counted by.
use Rattle.std.proofs.Common.{◌≡◌, ℕ, ◌<◌, ◌≤◌, Bool, true, false, List, [], ◌∷◌, length, Option, Some, None, refl, ap, ◌∙◌, subst, arith}
use Rattle.std.specs.Prelude.{slice_get, nat_lt, sum, All, if◌then◌else◌}
use Rattle.std.proofs.lemmas.List.Elements.{All-head, All-tail}
use Rattle.std.proofs.lemmas.List.Sums.{sum_by-cons}
use Rattle.dxil_form.specs.declared.instr.Addr.{Addr}
use Rattle.dxil_form.specs.declared.instr.Addr.TheVariants.{Byte, Element, Row, Index}
use Rattle.dxil_form.specs.declared.instr.Target.{Target}
use Rattle.dxil_form.specs.declared.instr.Target.TheVariants as target
use Rattle.dxil_form.specs.declared.instr.Instr.{Instr}
use Rattle.dxil_form.specs.declared.instr.Instr.TheVariants.{Bin, Cmp, Cast, Select, Copy, One, Two, Mad, Id, Size, Load, Store, Atomic, Swap, Barrier, Nothing}
use Rattle.dxil_form.specs.declared.block.Block.{Block}
use Rattle.dxil_form.specs.declared.block.Term.{Term}
use Rattle.dxil_form.specs.declared.block.Term.TheVariants.{Unreachable}
use Rattle.dxil_form.specs.declared.program.Kind.TheVariants.{Structured}
use Rattle.dxil_form.specs.declared.program.Resource.{Resource}
use Rattle.dxil_form.specs.declared.program.Program.{Program}
use Rattle.dxil_form.specs.Branches.{has, targets, targets_in, branches}
use Rattle.dxil_form.specs.Sound.{Sound, Use, Loads, Writes, AccessFits, AddrFits, KindFits, InstrFits, cases_in}
use Rattle.spirv_code.specs.declared.way.Way.TheVariants.{Chooses, Splits}
use Rattle.spirv_code.specs.Leaves.{phis_of, next_blocks, most_pairs, way_to, way_of}
use Rattle.frame_facts.proofs.Searches.{get_below}
use Rattle.plan_ready.proofs.Among.{Among}
use Rattle.chosen_plan.proofs.Members.{among_get}
use Rattle.module_sizes.proofs.Apart.{number_has, different_has}
use Rattle.module_sizes.proofs.Common.{most_number, lt_so, lt_told, are_small}
use Rattle.module_sizes.proofs.Access.{SmallAccess, stride_in}
use Rattle.module_sizes.proofs.Lines.{LineSmall}
use Rattle.module_sizes.proofs.Blocks.{HaveEntries}

-- a switch is split that has many cases
pub splits_many : (term : Term) → way_of term ≡ Splits → most_pairs < cases_in term
splits_many term e = by_next (next_blocks term) e
  where
    by_test : (b : Bool) → nat_lt most_pairs (cases_in term) ≡ b → (if b then Splits else Chooses) ≡ Splits → most_pairs < cases_in term
    by_test true is e = lt_told most_pairs (cases_in term) is
    by_test false is e = absurd (cc)

    by_next : (ks : List ℕ) → way_to ks (cases_in term) ≡ Splits → most_pairs < cases_in term
    by_next [] e = absurd (cc)
    by_next (k ∷ []) e = absurd (cc)
    by_next (k ∷ l ∷ ks) e = by_test (nat_lt most_pairs (cases_in term)) refl e

-- what the code of block b is counted by
pub record Counts (p : Program) (b : ℕ) (block : Block) : Type 0 where
  pub lines : (line : Instr) → Among line block.instrs → LineSmall p line
  pub entries : (k : ℕ) → Among k (next_blocks block.term) → HaveEntries b (phis_of (slice_get p.blocks k))
  pub targets : (k : ℕ) → Among k (targets block.term) → k ≤ most_number

abbrev pub empty : Block
empty = record { phis = []; instrs = []; term = Unreachable }

-- the block, or one without code where there is none
abbrev pub block_or : Option Block → Block
block_or None = empty
block_or (Some block) = block

pub empty_counts : (p : Program) (b : ℕ) → Counts p b empty
empty_counts p b =
    record {
      lines = λ line h. absurd h;
      entries = λ k h. absurd h;
      targets = λ k h. absurd h;
    }

module _ (p : Program) (sound : Sound p) where
  stride_low : (use_as : Use) (addr : Addr) (r : ℕ) (resource : Resource) → slice_get p.resources r ≡ Some resource → AddrFits use_as addr resource → stride_in addr ≤ most_number
  stride_low use_as (Byte at) r resource e h = omega arith
  stride_low use_as (Element index at stride) r resource e h =
      let fits : KindFits (Structured stride) resource.class = subst (λ k. KindFits k resource.class) h.0 (sound.resources r resource e).kind in
      omega (arith, fits.2)
  stride_low use_as (Row index) r resource e h = omega arith
  stride_low use_as (Index index) r resource e h = omega arith

  access_small : (use_as : Use) (t : Target) (addr : Addr) → AccessFits p use_as t addr → SmallAccess p t addr
  access_small use_as (target.Buffer r) addr h =
      record {
        target = lt_so r (length p.resources) (get_below p.resources r h.0 h.1);
        limit = (are_small p sound).rows r;
        stride = stride_low use_as addr r h.0 h.1 h.2;
      }
  access_small use_as (target.Shared a) (Index index) h =
      record {
        target = lt_so a (length p.shared) h.0;
        limit = (are_small p sound).words a;
        stride = omega arith;
      }
  access_small use_as (target.Shared a) (Byte at) h = absurd (h.1)
  access_small use_as (target.Shared a) (Element index at stride) h = absurd (h.1)
  access_small use_as (target.Shared a) (Row index) h = absurd (h.1)

  line_small : (line : Instr) → InstrFits p line → LineSmall p line
  line_small (Load to mask t addr) h = access_small Loads t addr h.1
  line_small (Store mask t addr x y z w) h = access_small Writes t addr h.2
  line_small (Atomic to op t addr value) h = access_small Writes t addr h
  line_small (Swap to t addr compare value) h = access_small Writes t addr h
  line_small (Size to buffer) h = lt_so buffer (length p.resources) (get_below p.resources buffer h.0 h.1)
  line_small (Bin to op t a b) h = tt
  line_small (Cmp to op t a b) h = tt
  line_small (Cast to op a) h = tt
  line_small (Select to t x a b) h = tt
  line_small (Copy to t a) h = tt
  line_small (One to op a) h = tt
  line_small (Two to op a b) h = tt
  line_small (Mad to x a b) h = tt
  line_small (Id to op part) h = tt
  line_small (Barrier sync s uav shared) h = tt
  line_small Nothing h = tt

  module _ (b : ℕ) (block : Block) (stands : slice_get p.blocks b ≡ Some block) where
    goes : (k : ℕ) → has k (targets block.term) ≡ true → branches p b k ≡ true
    goes k e = ap (λ o. has k (targets_in o)) stands ∙ e

    entries_there : (k : ℕ) → Among k (next_blocks block.term) → HaveEntries b (phis_of (slice_get p.blocks k))
    entries_there k h = by_block (slice_get p.blocks k) refl
      where
        by_block : (o : Option Block) → slice_get p.blocks k ≡ o → HaveEntries b (phis_of o)
        by_block None e phi among = absurd among
        by_block (Some next) e phi among =
            let n = among_get phi next.phis among in
            (sound.entries k n.0 phi (record { block = next; stands = e; line = n.1 })).all b (goes k (different_has (targets block.term) k h))

    pub block_counts : Counts p b block
    block_counts =
        record {
          lines = λ line among. (let n = among_get line block.instrs among in line_small line (sound.lines b n.0 line (record { block = block; stands = stands; line = n.1 })));
          entries = entries_there;
          targets = λ k among. (let low = (sound.targets b k (goes k (number_has k (targets block.term) among))).1 in omega (arith, low, sound.counts.blocks));
        }

-- a groupshared array has a word at least
pub shared_few : (p : Program) → Sound p → length p.shared ≤ most_number
shared_few p sound =
    let few = by_list p.shared sound.shared.least in
    omega (arith, few, sound.shared.most)
  where
    by_list : (xs : List ℕ) → All (λ n. 1 ≤ n) xs → length xs ≤ sum xs
    by_list [] h = omega arith
    by_list (x ∷ xs) h =
        let rest = by_list xs (All-tail (λ (n : ℕ). 1 ≤ n) x xs h) in
        let first : 1 ≤ x = All-head (λ (n : ℕ). 1 ≤ n) x xs h in
        omega (arith, rest, first, sum_by-cons (λ (y : ℕ). y) x xs)
