-- What searches find among declarations, variables of the function and decorations.
use Rattle.std.proofs.Common.{◌≡◌, ℕ, zero, suc, ◌+◌, ◌≤◌, Bool, true, false, List, [], ◌∷◌, ◌++◌, length, take, Option, Some, None, refl, ap, ◌∙◌, subst, arith, append_assoc, ne_eqb}
use Rattle.std.specs.Prelude.{slice_get, nat_eq, if◌then◌else◌, ◌&&◌, option_map}
use Rattle.dxil_form.specs.declared.program.Class.{Class}
use Rattle.dxil_form.specs.declared.program.Class.TheVariants.{Srv, Uav, Cbv}
use Rattle.dxil_form.specs.declared.program.Resource.{Resource}
use Rattle.dxil_form.specs.declared.program.Program.{Program}
use Rattle.spv_form.specs.declared.module.Inst.{Inst}
use Rattle.spirv_meaning.specs.Names.{is_some_at, label_of}
use Rattle.spirv_meaning.specs.Bindings.{Bindings, resource_at}
use Rattle.spirv_meaning.specs.Target.{result_of, declared, decoration, shared_number}
use Rattle.spirv_code.specs.declared.key.Sort.TheVariants as sort
use Rattle.spirv_code.specs.declared.key.Global.{Global}
use Rattle.spirv_code.specs.declared.key.Global.TheVariants.{Plain, Pointer, Number, Truth, Input, Buffer, Shared}
use Rattle.spirv_code.specs.declared.key.Slot.{Slot}
use Rattle.spirv_code.specs.Keys.{storage_class}
use Rattle.spirv_code.specs.Plans.{inst}
use Rattle.spirv_code.specs.Frame.{rowed, buffer_storage, words_declaration, declaration, declarations, read_only, read_only_of, set_of, binding_of, decorations_of, decorations, slot_variable, slot_variables}
use Rattle.frame_facts.specs.Serves.{arrays_in}
use Rattle.frame_facts.proofs.Searches.{Each, each_append, if_not, if_so, eq_same, eq_told, both_so, inj, DeclaresNot, IsNot, Elsewhere, decoration_skip}

-- ---- declarations

own_words : (p : Program) (ids : Global → ℕ) (id r : ℕ) (b : Bool) → result_of (words_declaration p ids id b r) ≡ Some id
own_words p ids id r true = refl
own_words p ids id r false = refl

pub own_result : (p : Program) (ids : Global → ℕ) (id : ℕ) (g : Global) → result_of (declaration p ids id g) ≡ Some id
own_result p ids id (Plain sort.Int) = refl
own_result p ids id (Plain sort.Bool) = refl
own_result p ids id (Plain sort.Triple) = refl
own_result p ids id (Plain sort.Row) = refl
own_result p ids id (Plain (sort.Words r)) = own_words p ids id r (rowed p r)
own_result p ids id (Plain (sort.Block r)) = refl
own_result p ids id (Plain (sort.Array a)) = refl
own_result p ids id (Pointer s to) = refl
own_result p ids id (Number n) = refl
own_result p ids id (Truth true) = refl
own_result p ids id (Truth false) = refl
own_result p ids id (Input b) = refl
own_result p ids id (Buffer r) = refl
own_result p ids id (Shared a) = refl

declares_own : (p : Program) (ids : Global → ℕ) (id : ℕ) (g : Global) → is_some_at (result_of (declaration p ids id g)) id ≡ true
declares_own p ids id g = ap (λ o. is_some_at o id) (own_result p ids id g) ∙ eq_same id

declares_other : (p : Program) (ids : Global → ℕ) (id x : ℕ) (g : Global) → (id ≡ x → ⊥) → DeclaresNot x (declaration p ids id g)
declares_other p ids id x g h = ap (λ o. is_some_at o x) (own_result p ids id g) ∙ ne_eqb id x h

pub declared_at : (p : Program) (ids : Global → ℕ) (n : ℕ) (table : List Global) (k : ℕ) (g : Global) (b : List Inst) → slice_get table k ≡ Some g → declared (declarations p ids n table ++ b) (n + k) ≡ Some (declaration p ids (n + k) g)
declared_at p ids n [] k g b e = absurd (let none : None ≡ Some g = e in grind arith)
declared_at p ids n (h ∷ table) zero g b e =
    let same : n ≡ n + 0 = omega arith in
    let here : declared (declarations p ids n (h ∷ table) ++ b) n ≡ Some (declaration p ids n g) = if_so (is_some_at (result_of (declaration p ids n h)) n) (declares_own p ids n h) _ _ ∙ ap (λ o. option_map (declaration p ids n) o) e in
    subst (λ id. declared (declarations p ids n (h ∷ table) ++ b) id ≡ Some (declaration p ids id g)) same here
declared_at p ids n (h ∷ table) (suc k) g b e =
    let same : suc n + k ≡ n + suc k = omega arith in
    let rest = declared_at p ids (suc n) table k g b e in
    subst (λ id. declared (declarations p ids n (h ∷ table) ++ b) id ≡ Some (declaration p ids id g)) same (if_not (is_some_at (result_of (declaration p ids n h)) (suc n + k)) (declares_other p ids n (suc n + k) h (λ e. omega arith)) _ _ ∙ rest)

pub declarations_apart : (p : Program) (ids : Global → ℕ) (n : ℕ) (table : List Global) (x : ℕ) → n + length table ≤ x → Each (DeclaresNot x) (declarations p ids n table)
declarations_apart p ids n [] x h = tt
declarations_apart p ids n (g ∷ table) x h =
    (declares_other p ids n x g (λ e. omega arith), declarations_apart p ids (suc n) table x (omega arith))

-- no name, no function, no decoration and no label
pub record IsQuiet (i : Inst) : Type 0 where
  pub no_name : IsNot 5 i
  pub no_function : IsNot 54 i
  pub no_decoration : IsNot 71 i
  pub no_label : label_of i ≡ None

quiet_words : (p : Program) (ids : Global → ℕ) (id r : ℕ) (b : Bool) → IsQuiet (words_declaration p ids id b r)
quiet_words p ids id r true = record { no_name = refl; no_function = refl; no_decoration = refl; no_label = refl }
quiet_words p ids id r false = record { no_name = refl; no_function = refl; no_decoration = refl; no_label = refl }

declaration_quiet : (p : Program) (ids : Global → ℕ) (id : ℕ) (g : Global) → IsQuiet (declaration p ids id g)
declaration_quiet p ids id (Plain (sort.Words r)) = quiet_words p ids id r (rowed p r)
declaration_quiet p ids id (Plain sort.Int) = record { no_name = refl; no_function = refl; no_decoration = refl; no_label = refl }
declaration_quiet p ids id (Plain sort.Bool) = record { no_name = refl; no_function = refl; no_decoration = refl; no_label = refl }
declaration_quiet p ids id (Plain sort.Triple) = record { no_name = refl; no_function = refl; no_decoration = refl; no_label = refl }
declaration_quiet p ids id (Plain sort.Row) = record { no_name = refl; no_function = refl; no_decoration = refl; no_label = refl }
declaration_quiet p ids id (Plain (sort.Block r)) = record { no_name = refl; no_function = refl; no_decoration = refl; no_label = refl }
declaration_quiet p ids id (Plain (sort.Array a)) = record { no_name = refl; no_function = refl; no_decoration = refl; no_label = refl }
declaration_quiet p ids id (Pointer s to) = record { no_name = refl; no_function = refl; no_decoration = refl; no_label = refl }
declaration_quiet p ids id (Number n) = record { no_name = refl; no_function = refl; no_decoration = refl; no_label = refl }
declaration_quiet p ids id (Truth true) = record { no_name = refl; no_function = refl; no_decoration = refl; no_label = refl }
declaration_quiet p ids id (Truth false) = record { no_name = refl; no_function = refl; no_decoration = refl; no_label = refl }
declaration_quiet p ids id (Input b) = record { no_name = refl; no_function = refl; no_decoration = refl; no_label = refl }
declaration_quiet p ids id (Buffer r) = record { no_name = refl; no_function = refl; no_decoration = refl; no_label = refl }
declaration_quiet p ids id (Shared a) = record { no_name = refl; no_function = refl; no_decoration = refl; no_label = refl }

pub declarations_quiet : (p : Program) (ids : Global → ℕ) (n : ℕ) (table : List Global) → Each IsQuiet (declarations p ids n table)
declarations_quiet p ids n [] = tt
declarations_quiet p ids n (g ∷ table) = (declaration_quiet p ids n g, declarations_quiet p ids (suc n) table)

-- ---- variables of the function

pub slot_at : (ids : Global → ℕ) (n : ℕ) (slots : List Slot) (k : ℕ) (s : Slot) (b : List Inst) → slice_get slots k ≡ Some s → declared (slot_variables ids n slots ++ b) (n + k) ≡ Some (slot_variable ids (n + k) s)
slot_at ids n [] k s b e = absurd (let none : None ≡ Some s = e in grind arith)
slot_at ids n (h ∷ slots) zero s b e =
    let same : n ≡ n + 0 = omega arith in
    let here : declared (slot_variables ids n (h ∷ slots) ++ b) n ≡ Some (slot_variable ids n s) = if_so (nat_eq n n) (eq_same n) _ _ ∙ ap (λ o. option_map (slot_variable ids n) o) e in
    subst (λ id. declared (slot_variables ids n (h ∷ slots) ++ b) id ≡ Some (slot_variable ids id s)) same here
slot_at ids n (h ∷ slots) (suc k) s b e =
    let same : suc n + k ≡ n + suc k = omega arith in
    let rest = slot_at ids (suc n) slots k s b e in
    subst (λ id. declared (slot_variables ids n (h ∷ slots) ++ b) id ≡ Some (slot_variable ids id s)) same (if_not (nat_eq n (suc n + k)) (ne_eqb n (suc n + k) (λ e. omega arith)) _ _ ∙ rest)

pub slots_apart : (ids : Global → ℕ) (n : ℕ) (slots : List Slot) (x : ℕ) → (n + length slots ≤ x) → Each (DeclaresNot x) (slot_variables ids n slots)
slots_apart ids n [] x h = tt
slots_apart ids n (s ∷ slots) x h =
    (ne_eqb n x (λ e. omega arith), slots_apart ids (suc n) slots x (omega arith))

pub slots_quiet : (ids : Global → ℕ) (n : ℕ) (slots : List Slot) → Each IsQuiet (slot_variables ids n slots)
slots_quiet ids n [] = tt
slots_quiet ids n (s ∷ slots) =
    (record { no_name = refl; no_function = refl; no_decoration = refl; no_label = refl }, slots_quiet ids (suc n) slots)

-- ---- decorations

read_only_elsewhere : (n id : ℕ) → (n ≡ id → ⊥) → (o : Option Resource) → Each (Elsewhere id) (read_only_of n o)
read_only_elsewhere n id h None = tt
read_only_elsewhere n id h (Some resource) = by_class resource.class
  where
    by_class : (class : Class) → Each (Elsewhere id) (read_only n class)
    by_class Srv = (ne_eqb n id h, tt)
    by_class Uav = tt
    by_class Cbv = tt

pub elsewhere : (p : Program) (at : Bindings) (n id : ℕ) (g : Global) → (n ≡ id → ⊥) → Each (Elsewhere id) (decorations_of p at n g)
elsewhere p at n id (Plain sort.Int) h = tt
elsewhere p at n id (Plain sort.Bool) h = tt
elsewhere p at n id (Plain sort.Triple) h = tt
elsewhere p at n id (Plain sort.Row) h = tt
elsewhere p at n id (Plain (sort.Words r)) h = (ne_eqb n id h, tt)
elsewhere p at n id (Plain (sort.Block r)) h = (ne_eqb n id h, (refl, tt))
elsewhere p at n id (Plain (sort.Array a)) h = tt
elsewhere p at n id (Pointer s to) h = tt
elsewhere p at n id (Number x) h = tt
elsewhere p at n id (Truth b) h = tt
elsewhere p at n id (Input b) h = (ne_eqb n id h, tt)
elsewhere p at n id (Buffer r) h =
    (ne_eqb n id h, (ne_eqb n id h, read_only_elsewhere n id h (slice_get p.resources r)))
elsewhere p at n id (Shared a) h = tt

-- a list that is looked through for the decorations of an id
pub decorated : (p : Program) (at : Bindings) (n : ℕ) (table : List Global) (k : ℕ) (g : Global) (kind : ℕ) (b : List Inst) → slice_get table k ≡ Some g → (rest : List Inst) × (decoration (decorations p at n table ++ b) (n + k) kind ≡ decoration (decorations_of p at (n + k) g ++ rest) (n + k) kind)
decorated p at n [] k g kind b e = absurd (let none : None ≡ Some g = e in grind arith)
decorated p at n (h ∷ table) zero g kind b e =
    let same : n ≡ n + 0 = omega arith in
    let rest = decorations p at (suc n) table ++ b in
    let here : decoration (decorations p at n (h ∷ table) ++ b) n kind ≡ decoration (decorations_of p at n g ++ rest) n kind = ap (λ xs. decoration xs n kind) (append_assoc (decorations_of p at n h) (decorations p at (suc n) table) b) ∙ ap (λ g. decoration (decorations_of p at n g ++ rest) n kind) (inj e) in
    (rest, subst (λ id. decoration (decorations p at n (h ∷ table) ++ b) id kind ≡ decoration (decorations_of p at id g ++ rest) id kind) same here)
decorated p at n (h ∷ table) (suc k) g kind b e =
    let same : suc n + k ≡ n + suc k = omega arith in
    let r = decorated p at (suc n) table k g kind b e in
    let skip = ap (λ xs. decoration xs (suc n + k) kind) (append_assoc (decorations_of p at n h) (decorations p at (suc n) table) b) ∙ decoration_skip (suc n + k) kind (decorations_of p at n h) (decorations p at (suc n) table ++ b) (elsewhere p at n (suc n + k) h (λ e. omega arith)) in
    (r.0, subst (λ id. decoration (decorations p at n (h ∷ table) ++ b) id kind ≡ decoration (decorations_of p at id g ++ r.0) id kind) same (skip ∙ r.1))

pub set_found : (p : Program) (at : Bindings) (id r : ℕ) (rest : List Inst) → decoration (decorations_of p at id (Buffer r) ++ rest) id 34 ≡ Some (set_of (slice_get at r))
set_found p at id r rest = if_so _ (ap (λ b. b && true) (eq_same id)) _ _

pub binding_found : (p : Program) (at : Bindings) (id r : ℕ) (rest : List Inst) → decoration (decorations_of p at id (Buffer r) ++ rest) id 33 ≡ Some (binding_of (slice_get at r))
binding_found p at id r rest =
    if_not _ (ap (λ b. b && false) (eq_same id)) _ _ ∙ if_so _ (ap (λ b. b && true) (eq_same id)) _ _

-- neither names, functions and labels nor results
pub record IsRemark (i : Inst) : Type 0 where
  pub no_name : IsNot 5 i
  pub no_function : IsNot 54 i
  pub no_label : label_of i ≡ None
  pub no_result : result_of i ≡ None
  pub no_variable : IsNot 59 i

read_only_remarks : (n : ℕ) (o : Option Resource) → Each IsRemark (read_only_of n o)
read_only_remarks n None = tt
read_only_remarks n (Some resource) = by_class resource.class
  where
    by_class : (class : Class) → Each IsRemark (read_only n class)
    by_class Srv = (record { no_name = refl; no_function = refl; no_label = refl; no_result = refl; no_variable = refl }, tt)
    by_class Uav = tt
    by_class Cbv = tt

remarks_of : (p : Program) (at : Bindings) (n : ℕ) (g : Global) → Each IsRemark (decorations_of p at n g)
remarks_of p at n (Plain sort.Int) = tt
remarks_of p at n (Plain sort.Bool) = tt
remarks_of p at n (Plain sort.Triple) = tt
remarks_of p at n (Plain sort.Row) = tt
remarks_of p at n (Plain (sort.Words r)) = (record { no_name = refl; no_function = refl; no_label = refl; no_result = refl; no_variable = refl }, tt)
remarks_of p at n (Plain (sort.Block r)) =
    (record { no_name = refl; no_function = refl; no_label = refl; no_result = refl; no_variable = refl }, (record { no_name = refl; no_function = refl; no_label = refl; no_result = refl; no_variable = refl }, tt))
remarks_of p at n (Plain (sort.Array a)) = tt
remarks_of p at n (Pointer s to) = tt
remarks_of p at n (Number x) = tt
remarks_of p at n (Truth b) = tt
remarks_of p at n (Input b) = (record { no_name = refl; no_function = refl; no_label = refl; no_result = refl; no_variable = refl }, tt)
remarks_of p at n (Buffer r) =
    (record { no_name = refl; no_function = refl; no_label = refl; no_result = refl; no_variable = refl }, (record { no_name = refl; no_function = refl; no_label = refl; no_result = refl; no_variable = refl }, read_only_remarks n (slice_get p.resources r)))
remarks_of p at n (Shared a) = tt

pub decorations_remarks : (p : Program) (at : Bindings) (n : ℕ) (table : List Global) → Each IsRemark (decorations p at n table)
decorations_remarks p at n [] = tt
decorations_remarks p at n (g ∷ table) =
    each_append IsRemark (decorations_of p at n g) (decorations p at (suc n) table) (remarks_of p at n g) (decorations_remarks p at (suc n) table)

-- the first resource of a set and a binding, where no two share them
pub resource_first : (at : Bindings) (n r : ℕ) (pair : ℕ × ℕ) → ((a b : ℕ) (x : ℕ × ℕ) → slice_get at a ≡ Some x → slice_get at b ≡ Some x → a ≡ b) → slice_get at r ≡ Some pair → resource_at at pair.0 pair.1 n ≡ Some (n + r)
resource_first [] n r pair apart e = absurd (let none : None ≡ Some pair = e in grind arith)
resource_first (y ∷ at) n zero pair apart e =
    let same : n ≡ n + 0 = omega arith in
    let is : y ≡ pair = inj e in
    let test : (nat_eq y.0 pair.0 && nat_eq y.1 pair.1) ≡ true = subst (λ z. (nat_eq y.0 z.0 && nat_eq y.1 z.1) ≡ true) is (ap (λ b. b && nat_eq y.1 y.1) (eq_same y.0) ∙ eq_same y.1) in
    if_so _ test _ _ ∙ ap Some same
resource_first (y ∷ at) n (suc r) pair apart e =
    by_test (nat_eq y.0 pair.0 && nat_eq y.1 pair.1) refl (resource_first at (suc n) r pair smaller e)
  where
    smaller : (a b : ℕ) (x : ℕ × ℕ) → slice_get at a ≡ Some x → slice_get at b ≡ Some x → a ≡ b
    smaller a b x ea eb =
        let e = apart (suc a) (suc b) x ea eb in
        omega (arith, e)

    by_test : (t : Bool) → (nat_eq y.0 pair.0 && nat_eq y.1 pair.1) ≡ t → resource_at at pair.0 pair.1 (suc n) ≡ Some (suc n + r) → (if t then Some n else resource_at at pair.0 pair.1 (suc n)) ≡ Some (n + suc r)
    by_test true t ih =
        let both = both_so (nat_eq y.0 pair.0) (nat_eq y.1 pair.1) t in
        let whole : y ≡ pair = pair_is y pair (eq_told y.0 pair.0 both.0) (eq_told y.1 pair.1 both.1) in
        let twice = apart 0 (suc r) pair (ap Some whole) e in
        absurd (omega (arith, twice))
      where
        pair_is : (a b : ℕ × ℕ) → a.0 ≡ b.0 → a.1 ≡ b.1 → a ≡ b
        pair_is (a, b) (c, d) e f = ap (λ x. (x, b)) e ∙ ap (λ y. (c, y)) f
    by_test false t ih =
        let same : suc n + r ≡ n + suc r = omega arith in
        ih ∙ ap Some same

-- ---- the numbers of groupshared arrays

same_number : (b : List Inst) (variable n : ℕ) → shared_number b variable n ≡ shared_number b variable (n + 0)
same_number b variable n =
    let same : n ≡ n + 0 = omega arith in
    ap (shared_number b variable) same

one_more : (h : Global) (table : List Global) → arrays_in (h ∷ table) ≡ arrays_in (h ∷ []) + arrays_in table
one_more (Shared a) table = let e : suc (arrays_in table) ≡ 1 + arrays_in table = omega arith in e
one_more (Plain s) table = let e : arrays_in table ≡ 0 + arrays_in table = omega arith in e
one_more (Pointer s to) table = let e : arrays_in table ≡ 0 + arrays_in table = omega arith in e
one_more (Number n) table = let e : arrays_in table ≡ 0 + arrays_in table = omega arith in e
one_more (Truth b) table = let e : arrays_in table ≡ 0 + arrays_in table = omega arith in e
one_more (Input b) table = let e : arrays_in table ≡ 0 + arrays_in table = omega arith in e
one_more (Buffer r) table = let e : arrays_in table ≡ 0 + arrays_in table = omega arith in e

other_array : (p : Program) (ids : Global → ℕ) (id variable : ℕ) (g : Global) (b : List Inst) (n : ℕ) → (id ≡ variable → ⊥) → shared_number (declaration p ids id g ∷ b) variable n ≡ shared_number b variable (n + arrays_in (g ∷ []))
other_array p ids id variable (Shared a) b n h =
    let next : suc n ≡ n + 1 = omega arith in
    if_not (nat_eq id variable) (ne_eqb id variable h) _ _ ∙ ap (shared_number b variable) next
other_array p ids id variable (Plain sort.Int) b n h = same_number b variable n
other_array p ids id variable (Plain sort.Bool) b n h = same_number b variable n
other_array p ids id variable (Plain sort.Triple) b n h = same_number b variable n
other_array p ids id variable (Plain sort.Row) b n h = same_number b variable n
other_array p ids id variable (Plain (sort.Words r)) b n h = by_rows (rowed p r) ∙ same_number b variable n
  where
    by_rows : (x : Bool) → shared_number (words_declaration p ids id x r ∷ b) variable n ≡ shared_number b variable n
    by_rows true = refl
    by_rows false = refl
other_array p ids id variable (Plain (sort.Block r)) b n h = same_number b variable n
other_array p ids id variable (Plain (sort.Array a)) b n h = same_number b variable n
other_array p ids id variable (Pointer s to) b n h = same_number b variable n
other_array p ids id variable (Number x) b n h = same_number b variable n
other_array p ids id variable (Truth true) b n h = same_number b variable n
other_array p ids id variable (Truth false) b n h = same_number b variable n
other_array p ids id variable (Input x) b n h = same_number b variable n
other_array p ids id variable (Buffer r) b n h = by_rows (rowed p r) ∙ same_number b variable n
  where
    by_rows : (x : Bool) → shared_number (inst 59 (ids (Pointer (buffer_storage x) (sort.Block r)) ∷ id ∷ storage_class (buffer_storage x) ∷ []) ∷ b) variable n ≡ shared_number b variable n
    by_rows true = refl
    by_rows false = refl

pub array_number : (p : Program) (ids : Global → ℕ) (m : ℕ) (table : List Global) (k a : ℕ) (b : List Inst) (n : ℕ) → slice_get table k ≡ Some (Shared a) → shared_number (declarations p ids m table ++ b) (m + k) n ≡ Some (n + arrays_in (take k table))
array_number p ids m [] k a b n e = absurd (let none : None ≡ Some (Shared a) = e in grind arith)
array_number p ids m (h ∷ table) zero a b n e =
    let same : m ≡ m + 0 = omega arith in
    let start : n ≡ n + 0 = omega arith in
    let here : shared_number (declarations p ids m (h ∷ table) ++ b) m n ≡ Some n = ap (λ g. shared_number (declaration p ids m g ∷ (declarations p ids (suc m) table ++ b)) m n) (inj e) ∙ if_so (nat_eq m m) (eq_same m) _ _ in
    subst (λ id. shared_number (declarations p ids m (h ∷ table) ++ b) id n ≡ Some (n + 0)) same (here ∙ ap Some start)
array_number p ids m (h ∷ table) (suc k) a b n e =
    let same : suc m + k ≡ m + suc k = omega arith in
    let skip = other_array p ids m (suc m + k) h (declarations p ids (suc m) table ++ b) n (λ e. omega arith) in
    let rest = array_number p ids (suc m) table k a b (n + arrays_in (h ∷ [])) e in
    let sum = one_more h (take k table) in
    let whole : n + arrays_in (h ∷ []) + arrays_in (take k table) ≡ n + arrays_in (take (suc k) (h ∷ table)) = omega (arith, sum) in
    subst (λ id. shared_number (declarations p ids m (h ∷ table) ++ b) id n ≡ Some (n + arrays_in (take (suc k) (h ∷ table)))) same (skip ∙ rest ∙ ap Some whole)
