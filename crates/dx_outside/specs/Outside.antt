-- What can be told of files and of a sink, and what a call does to them.
use Rattle.std.specs.Prelude.{◌≡◌, ◌≢◌, ◌≤◌, ◌<◌, ◌+◌, ◌-◌, ◌^◌, ◌++◌, ◌⊎◌, ℕ, List, Option, Some, None, min, length, take, drop}

-- The files by their names; None where there is no file of the name.
abbrev pub Store : Type 0
Store = List ℕ → Option (List ℕ)

-- What is told of files: all of them, or None where the object doesn't tell its content; and for each name how many calls failed.
pub record FilesSeen : Type 0 where
  pub store : Option Store
  pub read_faults : List ℕ → ℕ
  pub write_faults : List ℕ → ℕ

-- What is told of a sink: the bytes taken so far, or None where the object doesn't tell them; how many writes failed, and how many met want of memory.
pub record SinkSeen : Type 0 where
  pub taken : Option (List ℕ)
  pub faults : ℕ
  pub lacks : ℕ

-- the count after one more; it stays at the last value of the u64 that keeps it
abbrev pub next : ℕ → ℕ
next count = min (count + 1) (2 ^ 64 - 1)

-- A count rose in a call: it is greater than before, or stands at the last value of the u64 that keeps it.
abbrev pub Rose : ℕ → ℕ → Type 0
Rose before now = next before ≤ now

-- no count of the files fell
pub record FilesNeverFell (old new : FilesSeen) : Type 0 where
  pub reads : (name : List ℕ) → old.read_faults name ≤ new.read_faults name
  pub writes : (name : List ℕ) → old.write_faults name ≤ new.write_faults name

-- no count of the sink fell
pub record SinkNeverFell (old new : SinkSeen) : Type 0 where
  pub faults : old.faults ≤ new.faults
  pub lacks : old.lacks ≤ new.lacks

-- Where the files are told, there is a file of this name, and P holds of its bytes.
pub record Holds (files : Option Store) (name : List ℕ) (P : List ℕ → Type 0) : Type 0 where
  pub told : (store : Store) → files ≡ Some store → (bytes : List ℕ) × (store name ≡ Some bytes) × P bytes

-- Where the files are told, the file of this name has exactly these bytes.
pub record Stood (files : Option Store) (name : List ℕ) (bytes : List ℕ) : Type 0 where
  pub told : (store : Store) → files ≡ Some store → store name ≡ Some bytes

-- A read of n bytes: they are the file's bytes from the place on, and n is 0 only at or past the file's end.
pub record StandsAt (at n : ℕ) (into bytes : List ℕ) : Type 0 where
  pub piece : take n into ≡ take n (drop at bytes)
  pub ends : n ≡ 0 → length bytes ≤ at

-- Where the files are told, P relates what stood under this name to what stands there now, and no other name changed.
pub record Becomes (old : Option Store) (name : List ℕ) (P : Option (List ℕ) → Option (List ℕ) → Type 0) (new : Option Store) : Type 0 where
  pub told : (store : Store) → old ≡ Some store
      → (after : Store) × (new ≡ Some after) × P (store name) (after name) × ((other : List ℕ) → other ≢ name → after other ≡ store other)

-- after a whole write: the file has exactly these bytes
abbrev pub IsWhole : List ℕ → Option (List ℕ) → Option (List ℕ) → Type 0
IsWhole bytes before now = now ≡ Some bytes

-- after a failed write: the file is as before, or has a prefix of these bytes
abbrev pub IsTorn : List ℕ → Option (List ℕ) → Option (List ℕ) → Type 0
IsTorn bytes before now = (now ≡ before) ⊎ ((n : ℕ) × (now ≡ Some (take n bytes)))

-- the bytes taken, with more behind them, where they are told
abbrev pub with_more : Option (List ℕ) → List ℕ → Option (List ℕ)
with_more None more = None
with_more (Some taken) more = Some (taken ++ more)

-- A write appended the first n bytes of a piece, and at least one where the piece is not empty.
pub record Appends (n : ℕ) (piece : List ℕ) (old new : Option (List ℕ)) : Type 0 where
  pub within : n ≤ length piece
  pub some : 0 < length piece → 0 < n
  pub taken : new ≡ with_more old (take n piece)

-- A prefix of the text was appended.
pub record SaidPart (text : List ℕ) (old new : Option (List ℕ)) : Type 0 where
  pub count : ℕ
  pub taken : new ≡ with_more old (take count text)
