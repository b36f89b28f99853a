-- What the letters of a layout say of a record's fields (LLVM 3.7 bitcode file format, "FUNCTION_BLOCK Contents"; operands are counted back from the
-- current value number since LLVM 3.2).
use Rattle.std.specs.Prelude.{ℕ, ◌≡◌, ◌+◌, ◌-◌, ◌/◌, ◌%◌, ◌^◌, ◌<◌, ◌≤◌, ◌==◌, List, [], ◌∷◌, ◌++◌, length, slice_get, nat_lt, Option, Some, None, Result, Ok, Err, if◌then◌else◌}
use Rattle.llvm_layout.specs.Table.{Row}
use Rattle.llvm_layout.specs.declared.letter.Letter.{Letter}
use Rattle.llvm_layout.specs.declared.letter.Letter.TheVariants.{Typed, Back, Signed, Absolute, TypeNumber, BlockNumber, Plain}
use Rattle.llvm_layout.specs.declared.letter.Parts.{Parts}
use Rattle.llvm_layout.specs.declared.letter.Around.{Around}
use Rattle.llvm_layout.specs.declared.letter.Taken.{Taken}
use Rattle.llvm_layout.specs.declared.letter.Taken.TheVariants.{To, Misfit, Full}
use Rattle.dx_base.specs.declared.fault.OutOfMemory.{OutOfMemory}

-- the operand's number where a field holds the current value number less the operand's, modulo 2 ^ 32
abbrev pub back : ℕ → ℕ → ℕ
back now field = (now + 2 ^ 32 - field % 2 ^ 32) % 2 ^ 32

-- the same where the difference is in signed form: bit 0 says that it is below zero
abbrev pub signed_back : ℕ → ℕ → ℕ
signed_back now field = if field % 2 == 0 then back now (field / 2) else (now + field / 2) % 2 ^ 32

-- the parts with one more operand place, with a type number for the operand place that comes next, with one more plain field
abbrev pub number : Parts → ℕ → Parts
number p value = record p { numbers = p.numbers ++ value ∷ [] }

abbrev pub carried : Parts → ℕ → Parts
carried p ty = record p { types = p.types ++ (length p.numbers, ty) ∷ [] }

abbrev pub plain_field : Parts → ℕ → Parts
plain_field p value = record p { plain = p.plain ++ value ∷ [] }

abbrev pub nothing : Parts
nothing = record { numbers = []; types = []; plain = [] }

infixl 10 ◌>>=◌
abbrev pub ◌>>=◌ : {A B : Type 0} → Option A → (A → Option B) → Option B
None >>= f = None
(Some a) >>= f = f a

-- the type number that follows an operand which is not below the current number
unfoldable pub says_forward : Around → Parts → List ℕ → ℕ → ℕ → Option (Parts × ℕ)
says_forward x p fields at value = slice_get fields at >>= λ ty. if nat_lt ty x.types then Some (number (carried p ty) value, at + 1) else None

-- What a letter says at a place: the parts with what it adds, and the place behind its fields; None where it does not fit.
abbrev pub says_field : Around → Letter → Parts → List ℕ → ℕ → ℕ → Option (Parts × ℕ)
says_field x Typed p fields at field = if nat_lt (back x.now field) x.now then Some (number p (back x.now field), at + 1) else says_forward x p fields (at + 1) (back x.now field)
says_field x Back p fields at field = Some (number p (back x.now field), at + 1)
says_field x Signed p fields at field = Some (number p (signed_back x.now field), at + 1)
says_field x Absolute p fields at field = Some (number p (field % 2 ^ 32), at + 1)
says_field x TypeNumber p fields at field = if nat_lt field x.types then Some (carried p field, at + 1) else None
says_field x BlockNumber p fields at field = if nat_lt field x.blocks then Some (number p field, at + 1) else None
says_field x Plain p fields at field = Some (plain_field p field, at + 1)

unfoldable pub says : Around → Letter → Parts → List ℕ → ℕ → Option (Parts × ℕ)
says x letter p fields at = slice_get fields at >>= says_field x letter p fields at

abbrev pub TakenAnswer : Taken → Option (Parts × ℕ) → Parts → Type 0
TakenAnswer (To at) said new = said ≡ Some (new, at)
TakenAnswer Misfit said new = said ≡ None
TakenAnswer Full said new = Unit {0}

-- there are not more operands than fields
pub record IsRoomy (p : Parts) (fields : List ℕ) (at : ℕ) : Type 0 where
  pub numbers : length p.numbers ≤ at
  pub few : length fields ≤ 2 ^ 24
  pub place : at ≤ length fields

-- a row of letters, one after the other
abbrev pub walk : Around → List Letter → Parts → List ℕ → ℕ → Option (Parts × ℕ)
walk x [] p fields at = Some (p, at)
walk x (l ∷ ls) p fields at = says x l p fields at >>= λ q. walk x ls q.0 fields q.1

-- a row of letters any number of times, up to the last field
pub data Repeats (x : Around) (again : List Letter) (fields : List ℕ) : Parts → ℕ → Parts → Type 0 where
  ends : {p : Parts} {at : ℕ} → at ≡ length fields → Repeats x again fields p at p
  more : {p q r : Parts} {at to : ℕ} → at < length fields → walk x again p fields at ≡ Some (q, to) → Repeats x again fields q to r → Repeats x again fields p at r

-- the fields are those of a row of the table, and say these parts
pub record Fits (x : Around) (row : Row) (fields : List ℕ) (parts : Parts) : Type 0 where
  pub middle : Parts
  pub place : ℕ
  pub head : walk x row.head nothing fields 0 ≡ Some (middle, place)
  pub rest : Repeats x row.again fields middle place parts

-- The fields have one of these layouts.
pub record HasLayout (x : Around) (rows : List Row) (fields : List ℕ) (parts : Parts) : Type 0 where
  pub which : ℕ
  pub row : Row
  pub stands : slice_get rows which ≡ Some row
  pub fits : Fits x row fields parts

pub record NoRepeat (x : Around) (again : List Letter) (fields : List ℕ) (p : Parts) (at : ℕ) : Type 0 where
  pub none : (r : Parts) → Repeats x again fields p at r → ⊥

pub record NoFit (x : Around) (row : Row) (fields : List ℕ) : Type 0 where
  pub none : (parts : Parts) → Fits x row fields parts → ⊥

pub record NoLayout (x : Around) (rows : List Row) (fields : List ℕ) : Type 0 where
  pub none : (parts : Parts) → HasLayout x rows fields parts → ⊥

abbrev pub IsRoomyAfter : Taken → Parts → List ℕ → ℕ → Type 0
IsRoomyAfter (To to) new fields least = IsRoomy new fields to × (least ≤ to)
IsRoomyAfter Misfit new fields least = Unit {0}
IsRoomyAfter Full new fields least = Unit {0}

abbrev pub RepeatAnswer : Taken → Around → List Letter → List ℕ → Parts → ℕ → Parts → Type 0
RepeatAnswer (To to) x again fields old at new = Repeats x again fields old at new
RepeatAnswer Misfit x again fields old at new = NoRepeat x again fields old at
RepeatAnswer Full x again fields old at new = Unit {0}

abbrev pub FormAnswer : Result (Option Parts) OutOfMemory → Around → Row → List ℕ → Type 0
FormAnswer (Ok (Some parts)) x row fields = Fits x row fields parts
FormAnswer (Ok None) x row fields = NoFit x row fields
FormAnswer (Err e) x row fields = Unit {0}

abbrev pub LayoutAnswer : Result (Option Parts) OutOfMemory → Around → List Row → List ℕ → Type 0
LayoutAnswer (Ok (Some parts)) x rows fields = HasLayout x rows fields parts
LayoutAnswer (Ok None) x rows fields = NoLayout x rows fields
LayoutAnswer (Err e) x rows fields = Unit {0}
