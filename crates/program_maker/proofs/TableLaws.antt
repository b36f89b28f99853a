-- The tables of a body are those of its program.
use Rattle.std.proofs.Common.{ℕ, ◌≡◌, ◌<◌, ◌≤◌, ◌^◌, sym, ap, subst, ◌∙◌, arith, List, map, filter, filter_map, count_by, length, get_or, Bool, true, false}
use Rattle.std.specs.List.{range_with_len}
use Rattle.dx_base.specs.First.{IsSound}
use Rattle.dxil_form.specs.declared.block.Block.{Block}
use Rattle.dxil_form.specs.declared.program.Program.{Program}
use Rattle.dxil_form.specs.declared.program.Resource.{Resource}
use Rattle.llvm_facts.specs.declared.facts.Row.{Row}
use Rattle.profile_lines.specs.Pool.{Pool}
use Rattle.profile_tables.specs.EntryBody.{EntryBody}
use Rattle.profile_tables.specs.Places.{is_named_by, words_at, variables}
use Rattle.profile_tables.specs.Read.{IsRead}
use Rattle.profile_tables.specs.Resources.{is_row_named}
use Rattle.profile_rules.specs.Rules.{Broken}
use Rattle.stated_program.specs.Accesses.{resources, shared}
use Rattle.stated_program.specs.Stated.{block_at, program_of}
use Rattle.stated_lines.specs.Places.{ArePlaced}
use Rattle.program_maker.specs.Marks.{AreMarks, AreCounts, words_marked}
use Rattle.program_maker.specs.Blocks.{AreFit}
use Rattle.program_maker.specs.Order.{Keyed, AreInOrder, ArePlaces, AreRanks, is_named, resource_in}
use Rattle.program_maker.proofs.ListLaws.{filter_same}
use Rattle.program_maker.proofs.MarkLaws.{marks_count}
use Rattle.program_maker.proofs.OrderLaws.{order_places}
use Rattle.program_maker.proofs.RankLaws.{ranks_are, named_few, resources_are}
use Rattle.program_maker.proofs.Fits.{are_fit, few_rows, words_small}

pub are_placed : (x : EntryBody) (counts : List ℕ) (read : IsRead x counts) (order : List Keyed) (rows variables : List Bool) (ranks arrays : List ℕ) → AreInOrder x.rows order
    → AreMarks (length x.rows) (is_row_named x x.lines) rows → AreMarks (length x.pool.globals) (is_named_by x x.lines) variables → AreRanks rows order ranks → AreCounts variables arrays → ArePlaced x ranks arrays
are_placed x counts read order rows variables ranks arrays is named marks r a = record {
  ranks_are = ranks_are x counts read order is rows named ranks r;
  arrays_length = a.same_length ∙ marks.same_length;
  arrays_are = λ v l. a.each v (omega (arith, l, a.same_length)) ∙ marks_count (length x.pool.globals) (is_named_by x x.lines) variables marks v (omega (arith, l, a.same_length, marks.same_length));
}

pub shared_is : (x : EntryBody) (marks : List Bool) → AreMarks (length x.pool.globals) (is_named_by x x.lines) marks → words_marked x.pool marks ≡ shared x
shared_is x marks a = ap (λ n. map (words_at x.pool) (filter (λ v. get_or marks v false) (range_with_len 0 n))) a.same_length
    ∙ ap (map (words_at x.pool)) (filter_same (λ v. get_or marks v false) (is_named_by x x.lines) 0 (length x.pool.globals) (λ v l m. a.each v (omega arith)))

abbrev with_parts : List ℕ → List Resource → List ℕ → List Block → Program
with_parts counts l w k = record { local = counts; resources = l; shared = w; blocks = k }

-- ---- what the maker hands on, by the tables that it made

module _ (x : EntryBody) (counts : List ℕ) (read : IsRead x counts) (sound : IsSound (Broken x)) where
  pub small_words : (variables marks : List Bool) (pool : Pool) → AreMarks (length x.pool.globals) (is_named_by x x.lines) variables → marks ≡ variables → pool ≡ x.pool → (v : ℕ) → get_or marks v false ≡ true → words_at pool v < 2 ^ 32
  small_words variables marks pool a m p v e = subst (λ (q : Pool). words_at q v < 2 ^ 32) (sym p) (words_small x counts read sound variables a v (ap (λ (l : List Bool). get_or l v false) (sym m) ∙ e))

  pub same_shared : (variables marks : List Bool) (pool : Pool) (made : List ℕ) → AreMarks (length x.pool.globals) (is_named_by x x.lines) variables → marks ≡ variables → pool ≡ x.pool → made ≡ words_marked pool marks → made ≡ shared x
  same_shared variables marks pool made a m p e = e ∙ ap (λ (q : Pool). words_marked q marks) p ∙ ap (words_marked x.pool) m ∙ shared_is x variables a

  pub same_blocks : (y : EntryBody) (made : List Block) → y ≡ x → made ≡ map (block_at y) (range_with_len 0 y.blocks) → made ≡ map (block_at x) (range_with_len 0 x.blocks)
  same_blocks y made p e = e ∙ ap (λ (z : EntryBody). map (block_at z) (range_with_len 0 z.blocks)) p

  pub placed_fit : (y : EntryBody) → y ≡ x → AreFit y
  placed_fit y p = subst AreFit (sym p) (are_fit x counts read sound)

  -- the rows in order, and which ones are named
  module _ (rows : List Row) (order : List Keyed) (is : AreInOrder rows order) (same : rows ≡ x.rows) (named : List Bool) (marks : AreMarks (length x.rows) (is_row_named x x.lines) named) where
    in_order : AreInOrder x.rows order
    in_order = subst (λ (l : List Row). AreInOrder l order) same is

    pub slice_places : (o : List Keyed) (n : List Bool) → o ≡ order → n ≡ named → ArePlaces (length n) o
    slice_places o n e f = subst (λ (k : ℕ). ArePlaces k o) (sym (ap (λ (l : List Bool). length l) f ∙ marks.same_length)) (subst (λ (l : List Keyed). ArePlaces (length x.rows) l) (sym e) (order_places x counts read order in_order))

    pub slice_few : (o : List Keyed) (n : List Bool) → o ≡ order → n ≡ named → count_by (is_named n) o ≤ 1024
    slice_few o n e f = subst (λ (l : List Keyed). count_by (is_named n) l ≤ 1024) (sym e) (subst (λ (l : List Bool). count_by (is_named l) order ≤ 1024) (sym f) (named_few x counts read order in_order named marks (few_rows x counts read sound)))

    pub slice_placed : (o : List Keyed) (n : List Bool) (variables v : List Bool) (ranks arrays : List ℕ) → o ≡ order → n ≡ named → AreMarks (length x.pool.globals) (is_named_by x x.lines) variables → v ≡ variables → AreRanks n o ranks → AreCounts v arrays → ArePlaced x ranks arrays
    slice_placed o n variables v ranks arrays e f a g r h = are_placed x counts read order named variables ranks arrays in_order marks a
        (subst (λ (l : List Bool). AreRanks l order ranks) f (subst (λ (l : List Keyed). AreRanks n l ranks) e r)) (subst (λ (l : List Bool). AreCounts l arrays) g h)

    pub same_resources : (l : List Row) (o : List Keyed) (n : List Bool) (made : List Resource) → l ≡ x.rows → o ≡ order → n ≡ named → made ≡ filter_map (resource_in l n) o → made ≡ resources x
    same_resources l o n made d e f g = g ∙ ap (λ (k : List Row). filter_map (resource_in k n) o) d ∙ ap (λ (k : List Bool). filter_map (resource_in x.rows k) o) f ∙ ap (filter_map (resource_in x.rows named)) e ∙ resources_are x counts read order in_order named marks

  pub same_program : (resource_list : List Resource) (words : List ℕ) (blocks : List Block) → resource_list ≡ resources x → words ≡ shared x → blocks ≡ map (block_at x) (range_with_len 0 x.blocks)
      → ◌≡◌ {A = Program} (record { local = counts; resources = resource_list; shared = words; blocks = blocks }) (program_of x counts)
  unfolding program_of
  same_program resource_list words blocks a b c =
      ap (λ (l : List Resource). with_parts counts l words blocks) a ∙ ap (λ (l : List ℕ). with_parts counts (resources x) l blocks) b ∙ ap (λ (l : List Block). with_parts counts (resources x) (shared x) l) c
