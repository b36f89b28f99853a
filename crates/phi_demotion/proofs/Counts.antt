-- How many phis, reads and slots there are.
use Rattle.std.proofs.Common.{◌≡◌, ℕ, ◌+◌, ◌*◌, ◌<◌, ◌≤◌, Bool, true, false, ◌||◌, if◌then◌else◌, cond, nat_eq, ◌/◌, ◌%◌, ◌^◌, List, [], ◌∷◌, ◌++◌, length, map, filter, take, get_or, fold, refl, ap, sym, ◌∙◌, subst, arith, length-append}
use Rattle.std.specs.List.{flat_map, list_any}
use Rattle.std.proofs.lemmas.List.{take_more, append-nil, length-map}
use Rattle.std.proofs.lemmas.List.Sums.{fold-append}
use Rattle.std.proofs.lemmas.List.Folds.{length-flat_map-take}
use Rattle.std.proofs.lemmas.Grind.{flat_map-append}
use Rattle.dxil_form.specs.declared.value.Ty.{Ty}
use Rattle.dxil_form.specs.declared.value.Reg.{Reg}
use Rattle.dxil_form.specs.declared.value.Operand.{Operand}
use Rattle.dxil_form.specs.declared.value.Operand.TheVariants as operand
use Rattle.dxil_form.specs.declared.instr.Addr.{Addr}
use Rattle.dxil_form.specs.declared.instr.Addr.TheVariants.{Byte, Element, Row, Index}
use Rattle.dxil_form.specs.declared.instr.Instr.{Instr}
use Rattle.dxil_form.specs.declared.instr.Instr.TheVariants.{Bin, Cmp, Cast, Select, Copy, One, Two, Mad, Id, Size, Load, Store, Atomic, Swap, Barrier, Nothing}
use Rattle.dxil_form.specs.declared.block.Term.{Term}
use Rattle.dxil_form.specs.declared.block.Term.TheVariants.{Ret, Unreachable, Go, If, Switch}
use Rattle.dxil_form.specs.declared.block.Entry.{Entry}
use Rattle.dxil_form.specs.declared.block.Phi.{Phi}
use Rattle.dxil_form.specs.declared.block.Block.{Block}
use Rattle.dxil_form.specs.declared.program.Program.{Program}
use Rattle.dxil_form.specs.Registers.{Typed, reads, set_by, in_address, parts_of, pick, unless_empty, term_operands}
use Rattle.dxil_form.specs.Sound.{Sound, lines_of, entries_of, entries_in}
use Rattle.phi_demotion.specs.declared.slots.PhiSlot.{PhiSlot}
use Rattle.phi_demotion.specs.declared.slots.CrossSlot.{CrossSlot}
use Rattle.phi_demotion.specs.Reads.{key_of, is_key, has_key, unset, named, entry_reads, phi_reads, line_reads, settled, end_reads, block_reads, program_reads, with_read, slots_of_reads}
use Rattle.phi_demotion.specs.Slots.{phis_of, with_phi, slots_of_phis}

-- ---- phis

pub count_phis : (slots : List PhiSlot) (phis : List Phi) → length (fold with_phi slots phis) ≡ length slots + length phis
count_phis slots [] = omega arith
count_phis slots (phi ∷ phis) =
    let rest = count_phis (with_phi slots phi) phis in
    let one = length-append slots ((record { reg = phi.to; ty = phi.ty; next = 2 * length slots; now = 2 * length slots + 1 }) ∷ []) in
    omega arith

pub phis_fit : (blocks : List Block) (k : ℕ) (block : Block) (slots : List PhiSlot) → 2 * length (phis_of blocks) < 2 ^ 32 → k < length blocks → block ≡ get_or blocks k block → length slots ≡ length (phis_of (take k blocks)) → 2 * (length slots + length block.phis) < 2 ^ 32
phis_fit blocks k block slots few within here counted =
    let all = length-flat_map-take (λ (b : Block). b.phis) blocks k block within in
    let same : length (get_or blocks k block).phis ≡ length block.phis = ap (λ (b : Block). length b.phis) (sym here) in
    omega arith

pub phis_more : (blocks : List Block) (k : ℕ) (block : Block) (slots next : List PhiSlot) → k < length blocks → block ≡ get_or blocks k block → length slots ≡ length (phis_of (take k blocks)) → slots ≡ slots_of_phis [] (phis_of (take k blocks)) → next ≡ slots_of_phis slots block.phis → record { counted : length next ≡ length (phis_of (take (k + 1) blocks)); slots : next ≡ slots_of_phis [] (phis_of (take (k + 1) blocks)) }
phis_more blocks k block slots next within here counted made step =
    let cut : take (k + 1) blocks ≡ take k blocks ++ block ∷ [] = take_more blocks k block within ∙ ap (λ (b : Block). take k blocks ++ b ∷ []) (sym here) in
    let all : phis_of (take (k + 1) blocks) ≡ phis_of (take k blocks) ++ block.phis = ap phis_of cut ∙ flat_map-append (λ (b : Block). b.phis) (take k blocks) (block ∷ []) ∙ ap (λ (xs : List Phi). phis_of (take k blocks) ++ xs) (append-nil block.phis) in
    let added : length next ≡ length slots + length block.phis = ap length step ∙ count_phis slots block.phis in
    let longer : length (phis_of (take (k + 1) blocks)) ≡ length (phis_of (take k blocks)) + length block.phis = ap length all ∙ length-append (phis_of (take k blocks)) block.phis in
    record {
      counted = omega arith;
      slots = step ∙ ap (λ (s : List PhiSlot). fold with_phi s block.phis) made ∙ sym (fold-append with_phi [] (phis_of (take k blocks)) block.phis) ∙ ap (fold with_phi []) (sym all);
    }

few_phis : (blocks : List Block) → length (phis_of blocks) ≤ lines_of blocks
few_phis [] = omega arith
few_phis (block ∷ blocks) =
    let rest = few_phis blocks in
    let both = length-append block.phis (phis_of blocks) in
    omega arith

-- ---- reads

few_named : (a : Operand) → length (named a) ≤ 1
few_named (operand.Reg reg ty) = omega arith
few_named (operand.Int n) = omega arith
few_named (operand.Bool b) = omega arith
few_named (operand.Undef ty) = omega arith

few_unset : (has : ℕ × ℕ → Bool) (a : Operand) → length (unset has a) ≤ 1
few_unset has (operand.Reg reg ty) = by_test (has (key_of reg))
  where
    by_test : (b : Bool) → length {A = Reg × Ty} (if b then [] else (reg, ty) ∷ []) ≤ 1
    by_test true = omega arith
    by_test false = omega arith
few_unset has (operand.Int n) = omega arith
few_unset has (operand.Bool b) = omega arith
few_unset has (operand.Undef ty) = omega arith

few_each : {X Y : Type 0} (f : X → List Y) → ((x : X) → length (f x) ≤ 1) → (xs : List X) → length (flat_map f xs) ≤ length xs
few_each f one [] = omega arith
few_each f one (x ∷ xs) =
    let rest = few_each f one xs in
    let here = one x in
    let both = length-append (f x) (flat_map f xs) in
    omega arith

few_entries : (phis : List Phi) → length (phi_reads phis) ≤ entries_in phis
few_entries [] = omega arith
few_entries (phi ∷ phis) =
    let rest = few_entries phis in
    let here = few_each (λ (e : Entry). named e.value) (λ e. few_named e.value) phi.entries in
    let both = length-append (entry_reads phi.entries) (phi_reads phis) in
    omega arith

few_filtered : {X : Type 0} (test : X → Bool) (xs : List X) → length (filter test xs) ≤ length xs
few_filtered test [] = omega arith
few_filtered test (x ∷ xs) = by_test (test x) (few_filtered test xs)
  where
    by_test : (b : Bool) → length (filter test xs) ≤ length xs → length (cond b (x ∷ filter test xs) (filter test xs)) ≤ length (x ∷ xs)
    by_test true h = omega arith
    by_test false h = omega arith

few_parts : (mask : ℕ) → length (parts_of mask) ≤ 4
few_parts mask = few_filtered (λ c. nat_eq (mask / 2 ^ c % 2) 1) (0 ∷ 1 ∷ 2 ∷ 3 ∷ [])

few_in_address : (addr : Addr) → length (in_address addr) ≤ 2
few_in_address (Byte at) = omega arith
few_in_address (Element index at stride) = omega arith
few_in_address (Row index) = omega arith
few_in_address (Index index) = omega arith

few_unless : (parts : List ℕ) (operands : List Operand) → length (unless_empty parts operands) ≤ length operands
few_unless [] operands = omega arith
few_unless (c ∷ cs) operands = omega arith

few_operands : (instr : Instr) → length (reads instr) ≤ 6
few_operands (Bin to op ty a b) = omega arith
few_operands (Cmp to op ty a b) = omega arith
few_operands (Cast to op a) = omega arith
few_operands (Select to ty cond a b) = omega arith
few_operands (Copy to ty a) = omega arith
few_operands (One to op a) = omega arith
few_operands (Two to op a b) = omega arith
few_operands (Mad to a b c) = omega arith
few_operands (Id to op part) = omega arith
few_operands (Size to buffer) = omega arith
few_operands (Load to mask target addr) =
    let one = few_unless (parts_of mask) (in_address addr) in
    let two = few_in_address addr in
    omega arith
few_operands (Store mask target addr x y z w) =
    let one = few_in_address addr in
    let four = few_parts mask in
    let mapped : length (map (λ c. pick c x y z w) (parts_of mask)) ≡ length (parts_of mask) = length-map (parts_of mask) (λ c. pick c x y z w) in
    let both = length-append (in_address addr) (map (λ c. pick c x y z w) (parts_of mask)) in
    omega arith
few_operands (Atomic to op target (Byte at) value) = omega arith
few_operands (Atomic to op target (Element index at stride) value) = omega arith
few_operands (Atomic to op target (Row index) value) = omega arith
few_operands (Atomic to op target (Index index) value) = omega arith
few_operands (Swap to target (Byte at) compare value) = omega arith
few_operands (Swap to target (Element index at stride) compare value) = omega arith
few_operands (Swap to target (Row index) compare value) = omega arith
few_operands (Swap to target (Index index) compare value) = omega arith
few_operands (Barrier sync scope uav shared) = omega arith
few_operands Nothing = omega arith

few_lines : (done : List (Typed Reg)) (instrs : List Instr) → length (line_reads done instrs) ≤ 6 * length instrs
few_lines done [] = omega arith
few_lines done (i ∷ instrs) =
    let rest = few_lines (done ++ set_by i) instrs in
    let here = few_each (unset (has_key done)) (few_unset (has_key done)) (reads i) in
    let six = few_operands i in
    let both = length-append (flat_map (unset (has_key done)) (reads i)) (line_reads (done ++ set_by i) instrs) in
    omega arith

few_ends : (term : Term) → length (map (λ a. a.item) (term_operands term)) ≤ 1
few_ends Ret = omega arith
few_ends Unreachable = omega arith
few_ends (Go k) = omega arith
few_ends (If cond there other) = omega arith
few_ends (Switch value default cases) = omega arith

few_reads : (blocks : List Block) → length (program_reads blocks) ≤ entries_of blocks + 6 * lines_of blocks
few_reads [] = omega arith
few_reads (block ∷ blocks) =
    let rest = few_reads blocks in
    let phis = few_entries block.phis in
    let lines = few_lines [] block.instrs in
    let end = few_each (unset (has_key (settled block.instrs))) (few_unset (has_key (settled block.instrs))) (map (λ a. a.item) (term_operands block.term)) in
    let one = few_ends block.term in
    let two = length-append (phi_reads block.phis) (line_reads [] block.instrs) in
    let three = length-append (phi_reads block.phis ++ line_reads [] block.instrs) (end_reads block) in
    let four = length-append (block_reads block) (program_reads blocks) in
    omega arith

-- ---- both

pub record Bounds (p : Program) : Type 0 where
  pub phis : length (phis_of p.blocks) ≤ 32768
  pub reads : length (program_reads p.blocks) ≤ 458752

pub bounds : (p : Program) → Sound p → Bounds p
bounds p sound =
    let lines = sound.counts.instructions in
    let entries = sound.counts.entries in
    let phis = few_phis p.blocks in
    let all = few_reads p.blocks in
    record { phis = omega arith; reads = omega arith }

few_slots : (is_phi : ℕ × ℕ → Bool) (first : ℕ) (slots : List CrossSlot) (list : List (Reg × Ty)) → length (fold (with_read is_phi first) slots list) ≤ length slots + length list
few_slots is_phi first slots [] = omega arith
few_slots is_phi first slots (read ∷ list) =
    let rest = few_slots is_phi first (with_read is_phi first slots read) list in
    let one = by_test (is_phi (key_of read.0) || list_any (λ s. is_key (key_of s.reg) (key_of read.0)) slots) in
    omega arith
  where
    by_test : (b : Bool) → length (if b then slots else slots ++ (record { reg = read.0; ty = read.1; slot = first + length slots }) ∷ []) ≤ length slots + 1
    by_test true = omega arith
    by_test false = omega (arith, length-append slots ((record { reg = read.0; ty = read.1; slot = first + length slots }) ∷ []))

pub count_slots : (is_phi : ℕ × ℕ → Bool) (first : ℕ) (list : List (Reg × Ty)) → length (slots_of_reads is_phi first list) ≤ length list
count_slots is_phi first list = let all = few_slots is_phi first [] list in omega arith

-- ---- what the call asks on its way

pub few_first : (p : Program) → Sound p → (phis : List PhiSlot) → phis ≡ slots_of_phis [] (phis_of p.blocks) → 2 * length phis ≤ 65536
few_first p sound phis made =
    let all = bounds p sound in
    let few = all.phis in
    let same : length phis ≡ length {A = PhiSlot} [] + length (phis_of p.blocks) = ap length made ∙ count_phis [] (phis_of p.blocks) in
    omega arith

pub few_all : (p : Program) → Sound p → (phis : List PhiSlot) (list : List (Reg × Ty)) → phis ≡ slots_of_phis [] (phis_of p.blocks) → list ≡ program_reads p.blocks → 2 * length phis + length list < 2 ^ 32
few_all p sound phis list made read =
    let first = few_first p sound phis made in
    let all = bounds p sound in
    let few = all.reads in
    let same : length list ≡ length (program_reads p.blocks) = ap length read in
    omega arith

pub few_crossing : (is_phi : ℕ × ℕ → Bool) (first : ℕ) (list : List (Reg × Ty)) (slots : List CrossSlot) → slots ≡ slots_of_reads is_phi first list → first + length list < 2 ^ 32 → first + length slots < 2 ^ 32
few_crossing is_phi first list slots made few =
    let all = count_slots is_phi first list in
    let same : length slots ≡ length (slots_of_reads is_phi first list) = ap length made in
    omega arith
