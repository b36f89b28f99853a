-- What the reader of the bodies knows behind an item, and answers.
use Rattle.std.specs.Prelude.{ℕ, ◌≡◌, ◌+◌, ◌<◌, ◌≤◌, ◌^◌, ◌==◌, ◌&&◌, ◌||◌, List, [], ◌∷◌, ◌++◌, All, length, get_or, Bool, true, false, not, if◌then◌else◌, Option, Result, Ok, Err}
use Rattle.bitstream_spelling.specs.Framed.{bit_of, open_after}
use Rattle.bitstream_spelling.specs.declared.item.Item.{Item}
use Rattle.dx_base.specs.First.{IsFirst, IsSound}
use Rattle.dx_base.specs.Sentences.{first_that_holds}
use Rattle.dx_base.specs.declared.fault.Fault.{Fault}
use Rattle.dx_base.specs.declared.fault.Fault.TheVariants.{Refused, Limit, OutOfMemory}
use Rattle.dx_base.specs.declared.fault.Rule.TheVariants.{M}
use Rattle.dx_base.specs.declared.fault.Which.TheVariants.{Blocks, Instructions, Cases, PhiEntries}
use Rattle.llvm_items.specs.Sites.{Site, sites, enters, ends, is_record_of, code_of, fields_of, bit_at}
use Rattle.llvm_layout.specs.declared.letter.Parts.{Parts}
use Rattle.llvm_values.specs.Values.{constant_of, type_after}
use Rattle.llvm_values.specs.declared.global.Global.{Global}
use Rattle.llvm_bodies.specs.Bodies.{is_terminator, is_instruction, is_constant, is_line, gives, first_number, cases_in, entries_in, around_of, IsLineAt, AreBodies}
use Rattle.llvm_bodies.specs.Rules.{Says, has_parts, tests, Broken}
use Rattle.llvm_bodies.specs.declared.line.Line.{Line}
use Rattle.llvm_bodies.specs.declared.line.Body.{Body}
use Rattle.llvm_bodies.specs.declared.read.Reader.{Reader}
use Rattle.llvm_bodies.specs.declared.facts.ModuleFacts.{ModuleFacts}
use Rattle.llvm_bodies.specs.declared.progress.Progress.{Progress}

-- A module has no more values than records, and no more arguments than fields.
pub record AreFew (m : ModuleFacts) : Type 0 where
  pub values : length m.callees ≤ 2 ^ 31
  pub types : length m.types < 2 ^ 32
  pub bodies : length m.arguments < 2 ^ 32
  pub arguments : All (λ a. a ≤ 2 ^ 30) m.arguments

-- a record that breaks no rule has parts, a code of 32 bits and, where it is the first, a count of blocks of 32 bits
pub record IsGood (p : Progress) (code : ℕ) (fields : List ℕ) (parts : Option Parts) : Type 0 where
  pub fit : has_parts parts ≡ true
  pub small : code < 2 ^ 32
  pub blocks : p.started ≡ false → get_or fields 0 0 < 2 ^ 32

-- the counters can go up
pub record HasRoom (p : Progress) : Type 0 where
  pub bodies : p.bodies + 1 < 2 ^ 32
  pub now : p.now + 1 < 2 ^ 32
  pub block : p.block + 1 < 2 ^ 32
  pub instructions : p.instructions + 1 < 2 ^ 32
  pub cases : p.cases < 2 ^ 60
  pub entries : p.entries < 2 ^ 60

abbrev pub begun_at : ModuleFacts → Progress → ℕ → Progress
begun_at m p bit = record {
  bodies = p.bodies + 1;
  bit = bit;
  now = first_number m p.bodies;
  started = false;
  blocks = 0;
  block = 0;
  busy = false;
  closed = false;
  instructions = 0;
  cases = 0;
  entries = 0;
}

abbrev pub constant_after : Progress → Progress
constant_after p = record p { now = p.now + 1 }

abbrev pub record_after : ModuleFacts → Progress → ℕ → List ℕ → Progress
record_after m p code fields = record {
  bodies = p.bodies;
  bit = p.bit;
  now = if gives m p.now code fields then p.now + 1 else p.now;
  started = true;
  blocks = if p.started then p.blocks else get_or fields 0 0;
  block = if is_terminator code then p.block + 1 else p.block;
  busy = not (is_terminator code) && (p.busy || (is_instruction code && not (code == 16)));
  closed = if is_instruction code then is_terminator code else p.closed;
  instructions = if is_instruction code then p.instructions + 1 else p.instructions;
  cases = p.cases + cases_in code fields;
  entries = p.entries + entries_in code fields;
}

-- what is known behind an item
abbrev pub after : ModuleFacts → List ℕ → Progress → Site → Progress
after m fs p s =
    if enters 12 s then begun_at m p (bit_at s)
    else if is_record_of 12 s then record_after m p (code_of s.item) (fields_of fs s.item)
    else if is_constant s then constant_after p
    else p

-- A fault as a rule or a limit by its number, with its bit: `P` speaks of both. Want of memory says nothing.
abbrev pub Tells : (ℕ → ℕ → Type 0) → Fault → Type 0
Tells P (Refused (M rule) bit) = (rule ≤ 11) × P rule bit
Tells P (Limit Blocks bit) = P 12 bit
Tells P (Limit Instructions bit) = P 13 bit
Tells P (Limit Cases bit) = P 14 bit
Tells P (Limit PhiEntries bit) = P 15 bit
Tells P OutOfMemory = Unit {0}
Tells P e = ⊥

abbrev pub fault_of : ℕ → ℕ → Fault
fault_of rule bit =
    if rule == 12 then Limit Blocks bit
    else if rule == 13 then Limit Instructions bit
    else if rule == 14 then Limit Cases bit
    else if rule == 15 then Limit PhiEntries bit
    else Refused (M rule) bit

-- The bodies where nothing is broken, or the first rule that is broken or limit that is passed, with its bit.
abbrev pub BodiesAnswer : Result (List Body) Fault → ModuleFacts → List Item → List ℕ → Type 0
BodiesAnswer (Ok bodies) m is fs = AreBodies m fs (sites is) bodies × IsSound (Broken m is fs)
BodiesAnswer (Err e) m is fs = Tells (IsFirst (Broken m is fs)) e

-- the site of an item for a reader
abbrev pub here : Reader → Item → Site
here r item = record { around = r.around; item = item }

-- what the fields of a body's record say
abbrev pub SaysHere : ModuleFacts → List ℕ → Reader → Item → Option Parts → Type 0
SaysHere m fs r item parts = is_record_of 12 (here r item) ≡ true → Says (around_of m fs r.known) (code_of item) (fields_of fs item) parts

abbrev pub rule_at : ModuleFacts → List ℕ → Reader → Item → Option Parts → ℕ
rule_at m fs r item parts = first_that_holds (tests m fs r.known parts (here r item))

-- a rule is the first that is broken at an item
pub record IsStopped (m : ModuleFacts) (fs : List ℕ) (r : Reader) (item : Item) (rule bit : ℕ) : Type 0 where
  pub parts : Option Parts
  pub says : SaysHere m fs r item parts
  pub first : rule_at m fs r item parts ≡ rule
  pub positive : 0 < rule
  pub at : bit ≡ bit_of item

-- The lines behind an item: none behind the entry or the end of a body, one more behind an instruction.
abbrev pub LinesNext : Bool → Bool → (Line → Type 0) → List Line → List Line → Type 0
LinesNext true b P old new = new ≡ []
LinesNext false true P old new = (line : Line) × (new ≡ old ++ line ∷ []) × P line
LinesNext false false P old new = new ≡ old

-- The constants behind an item, in the same way; `ty` is the type that is set before it.
abbrev pub constants_after : List ℕ → Option ℕ → List Global → Site → List Global
constants_after fs ty old s =
    if enters 12 s || ends 12 s then []
    else if is_constant s then old ++ constant_of ty (code_of s.item) (fields_of fs s.item) (bit_at s) ∷ []
    else old

-- a body of what was read
pub record IsBodyAt (p : Progress) (constants : List Global) (lines : List Line) (body : Body) : Type 0 where
  pub bit : body.bit ≡ p.bit
  pub blocks : body.blocks ≡ p.blocks
  pub values : body.values ≡ p.now
  pub numbered : body.constants ≡ constants
  pub same : body.lines ≡ lines

abbrev pub BodiesNext : Bool → (Body → Type 0) → List Body → List Body → Type 0
BodiesNext true P old new = (body : Body) × (new ≡ old ++ body ∷ []) × P body
BodiesNext false P old new = new ≡ old

-- a line is kept, and nothing else is changed
pub record IsPushed (old new : Reader) (line : Line) : Type 0 where
  pub lines : new.lines ≡ old.lines ++ line ∷ []
  pub bodies : new.bodies ≡ old.bodies
  pub constants : new.constants ≡ old.constants
  pub ty : new.ty ≡ old.ty
  pub around : new.around ≡ old.around
  pub known : new.known ≡ old.known

-- a constant is kept, and nothing else is changed
pub record IsNumbered (old new : Reader) (constant : Global) : Type 0 where
  pub constants : new.constants ≡ old.constants ++ constant ∷ []
  pub lines : new.lines ≡ old.lines
  pub bodies : new.bodies ≡ old.bodies
  pub ty : new.ty ≡ old.ty
  pub around : new.around ≡ old.around
  pub known : new.known ≡ old.known

-- the open body is kept, and nothing else is changed
pub record IsBodyKept (old new : Reader) : Type 0 where
  pub body : Body
  pub kept : new.bodies ≡ old.bodies ++ body ∷ []
  pub is : IsBodyAt old.known old.constants old.lines body
  pub lines : new.lines ≡ []
  pub constants : new.constants ≡ []
  pub ty : new.ty ≡ old.ty
  pub around : new.around ≡ old.around
  pub known : new.known ≡ old.known

-- lines, constants and bodies are kept of an item, and nothing else is changed
pub record IsKept (m : ModuleFacts) (fs : List ℕ) (old new : Reader) (item : Item) : Type 0 where
  pub lines : LinesNext (enters 12 (here old item) || ends 12 (here old item)) (is_line (here old item)) (IsLineAt m fs old.known (here old item)) old.lines new.lines
  pub bodies : BodiesNext (ends 12 (here old item)) (IsBodyAt old.known old.constants old.lines) old.bodies new.bodies
  pub constants : new.constants ≡ constants_after fs old.ty old.constants (here old item)
  pub ty : new.ty ≡ old.ty
  pub around : new.around ≡ old.around
  pub known : new.known ≡ old.known

-- one item more was read, at which nothing is broken
pub record IsPassed (m : ModuleFacts) (fs : List ℕ) (old new : Reader) (item : Item) : Type 0 where
  pub parts : Option Parts
  pub says : SaysHere m fs old item parts
  pub none : rule_at m fs old item parts ≡ 0
  pub lines : LinesNext (enters 12 (here old item) || ends 12 (here old item)) (is_line (here old item)) (IsLineAt m fs old.known (here old item)) old.lines new.lines
  pub bodies : BodiesNext (ends 12 (here old item)) (IsBodyAt old.known old.constants old.lines) old.bodies new.bodies
  pub constants : new.constants ≡ constants_after fs old.ty old.constants (here old item)
  pub ty : new.ty ≡ type_after fs old.ty (here old item)
  pub around : new.around ≡ open_after old.around item
  pub known : new.known ≡ after m fs old.known (here old item)

abbrev pub StepAnswer : Result (Unit {0}) Fault → ModuleFacts → List ℕ → Reader → Reader → Item → Type 0
StepAnswer (Ok u) m fs old new item = IsPassed m fs old new item
StepAnswer (Err e) m fs old new item = Tells (IsStopped m fs old item) e
