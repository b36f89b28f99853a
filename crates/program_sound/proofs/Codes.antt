-- The words of the profile at each record code.
use Rattle.std.proofs.Common.{ℕ, ◌≡◌, inl, inr, refl, false, cond, ◌&&◌, ◌||◌, ◌==◌, nat_lt, filter, List, length}
use Rattle.std.proofs.lemmas.Bool.{cases_Bool, eqb-true}
use Rattle.dxil_form.specs.declared.instr.Instr.TheVariants.{Bin, Cmp, Cast, Select, Copy, Load, Store, Atomic, Swap, Nothing}
use Rattle.dxil_form.specs.declared.value.Ty.TheVariants as ty
use Rattle.llvm_bodies.specs.declared.line.Line.{Line}
use Rattle.profile_lines.specs.Calls.{operand, carried, plain, operation}
use Rattle.profile_lines.specs.Pool.{Pool, stated}
use Rattle.profile_lines.specs.Values.{operand_type, load_type, source_type, atomic_type, line_type, line_kind, call_type, compared, numbered, members, kind_in, kind_of_call, is_variable}
use Rattle.profile_lines.specs.declared.known.Known.{Known}
use Rattle.profile_lines.specs.declared.known.ValueKind.TheVariants.{Int, Bool as BoolKind, Parts, Place}
use Rattle.profile_lines.specs.declared.known.ValueType.{ValueType}
use Rattle.profile_lines.specs.declared.known.ValueType.TheVariants.{Unknown, Exchanged}
use Rattle.profile_tables.specs.EntryBody.{EntryBody}
use Rattle.profile_tables.specs.Places.{place_named, place_made, place_of}
use Rattle.profile_rules.specs.Asked.{are_asked, stands_for, are_alike, is_plain_at, is_of_kind, are_entries, are_arguments}
use Rattle.stated_program.specs.Accesses.{array, index}
use Rattle.stated_program.specs.Instructions.{instruction, set_by, bin_of, cmp_of, cast_of, rmw_of, ty_at, own_ty, at, number_of, part_taken, called, no_value}

-- no code that states something
pub record IsOther (c : ℕ) : Type 0 where
  pub no2 : (c == 2) ≡ false
  pub no3 : (c == 3) ≡ false
  pub no16 : (c == 16) ≡ false
  pub no20 : (c == 20) ≡ false
  pub no26 : (c == 26) ≡ false
  pub no28 : (c == 28) ≡ false
  pub no29 : (c == 29) ≡ false
  pub no34 : (c == 34) ≡ false
  pub no38 : (c == 38) ≡ false
  pub no43 : (c == 43) ≡ false
  pub no44 : (c == 44) ≡ false
  pub no46 : (c == 46) ≡ false

-- what a code is
pub data CodeIs (c : ℕ) : Type 0 where
  binop : c ≡ 2 → CodeIs c
  cast : c ≡ 3 → CodeIs c
  phi : c ≡ 16 → CodeIs c
  load : c ≡ 20 → CodeIs c
  extract : c ≡ 26 → CodeIs c
  compare : c ≡ 28 → CodeIs c
  select : c ≡ 29 → CodeIs c
  call : c ≡ 34 → CodeIs c
  rmw : c ≡ 38 → CodeIs c
  gep : c ≡ 43 → CodeIs c
  store : c ≡ 44 → CodeIs c
  swap : c ≡ 46 → CodeIs c
  unlisted : IsOther c → CodeIs c

pub code_is : (c : ℕ) → CodeIs c
code_is c =
    elim (cases_Bool (c == 2)) [
      | inl e ↦ binop (eqb-true c 2 e)
      | inr n2 ↦
          elim (cases_Bool (c == 3)) [
            | inl e ↦ cast (eqb-true c 3 e)
            | inr n3 ↦
                elim (cases_Bool (c == 16)) [
                  | inl e ↦ phi (eqb-true c 16 e)
                  | inr n16 ↦
                      elim (cases_Bool (c == 20)) [
                        | inl e ↦ load (eqb-true c 20 e)
                        | inr n20 ↦
                            elim (cases_Bool (c == 26)) [
                              | inl e ↦ extract (eqb-true c 26 e)
                              | inr n26 ↦
                                  elim (cases_Bool (c == 28)) [
                                    | inl e ↦ compare (eqb-true c 28 e)
                                    | inr n28 ↦
                                        elim (cases_Bool (c == 29)) [
                                          | inl e ↦ select (eqb-true c 29 e)
                                          | inr n29 ↦
                                              elim (cases_Bool (c == 34)) [
                                                | inl e ↦ call (eqb-true c 34 e)
                                                | inr n34 ↦
                                                    elim (cases_Bool (c == 38)) [
                                                      | inl e ↦ rmw (eqb-true c 38 e)
                                                      | inr n38 ↦
                                                          elim (cases_Bool (c == 43)) [
                                                            | inl e ↦ gep (eqb-true c 43 e)
                                                            | inr n43 ↦
                                                                elim (cases_Bool (c == 44)) [
                                                                  | inl e ↦ store (eqb-true c 44 e)
                                                                  | inr n44 ↦
                                                                      elim (cases_Bool (c == 46)) [
                                                                        | inl e ↦ swap (eqb-true c 46 e)
                                                                        | inr n46 ↦
                                                                            unlisted (record { no2 = n2; no3 = n3; no16 = n16; no20 = n20; no26 = n26; no28 = n28; no29 = n29; no34 = n34; no38 = n38; no43 = n43; no44 = n44; no46 = n46 })
                                                                      ]
                                                                ]
                                                          ]
                                                    ]
                                              ]
                                        ]
                                  ]
                            ]
                      ]
                ]
          ]
    ]

-- ---- types and kinds

module _ (x : Pool) (all : List Line) (values : ℕ) (known : List Known) (line : Line) where
  pub type2 : line.code ≡ 2 → line_type x all values known line ≡ operand_type known line 0
  type2 e = rw e refl

  pub type3 : line.code ≡ 3 → line_type x all values known line ≡ numbered (carried line 1)
  type3 e = rw e refl

  pub type16 : line.code ≡ 16 → line_type x all values known line ≡ numbered (carried line 0)
  type16 e = rw e refl

  pub type20 : line.code ≡ 20 → line_type x all values known line ≡ load_type x known line (carried line 1)
  type20 e = rw e refl

  pub type26 : line.code ≡ 26 → line_type x all values known line ≡ members x (source_type x all values known line) line.plain
  type26 e = rw e refl

  pub type28 : line.code ≡ 28 → line_type x all values known line ≡ compared x (operand_type known line 0)
  type28 e = rw e refl

  pub type29 : line.code ≡ 29 → line_type x all values known line ≡ operand_type known line 0
  type29 e = rw e refl

  pub type34 : line.code ≡ 34 → line_type x all values known line ≡ call_type x line
  type34 e = rw e refl

  pub type38 : line.code ≡ 38 → line_type x all values known line ≡ atomic_type x all values known line
  type38 e = rw e refl

  pub type46 : line.code ≡ 46 → line_type x all values known line ≡ Exchanged
  type46 e = rw e refl

  pub type44 : line.code ≡ 44 → line_type x all values known line ≡ Unknown
  type44 e = rw e refl

  pub type-other : IsOther line.code → line_type x all values known line ≡ Unknown
  type-other n = rw (n.no2, n.no3, n.no16, n.no20, n.no26, n.no28, n.no29, n.no34, n.no38, n.no43, n.no46) refl

module _ (x : Pool) (of : ValueType) (line : Line) where
  pub kind34 : line.code ≡ 34 → line_kind x of line ≡ kind_of_call (operation x line)
  kind34 e = rw e refl

  pub kind43 : line.code ≡ 43 → line_kind x of line ≡ cond (is_variable (stated x (operand line 0))) Place (kind_in x of)
  kind43 e = rw e refl

  pub kind46 : line.code ≡ 46 → line_kind x of line ≡ Parts
  kind46 e = rw e refl

  pub kind-else : (line.code == 34) ≡ false → (line.code == 43) ≡ false → (line.code == 46) ≡ false → line_kind x of line ≡ kind_in x of
  kind-else a b c = rw (a, b, c) refl

-- ---- what is asked, and what is stated

pub suits2 : (line : Line) → line.code ≡ 2 → stands_for line ≡ filter (λ p. nat_lt p.0 (length line.numbers)) line.types
suits2 line e = rw e refl

pub suits29 : (line : Line) → line.code ≡ 29 → stands_for line ≡ filter (λ p. nat_lt p.0 (length line.numbers)) line.types
suits29 line e = rw e refl

module _ (x : EntryBody) (line : Line) where
  pub asked2 : line.code ≡ 2 → are_asked x line ≡ are_alike x line
  asked2 e = rw e refl

  pub asked3 : line.code ≡ 3 → are_asked x line ≡ is_plain_at x line 0
  asked3 e = rw e refl

  pub asked16 : line.code ≡ 16 → are_asked x line ≡ are_entries x line
  asked16 e = rw e refl

  pub asked20 : line.code ≡ 20 → are_asked x line ≡ is_of_kind x line 0 Place
  asked20 e = rw e refl

  pub asked26 : line.code ≡ 26 → are_asked x line ≡ is_of_kind x line 0 Parts
  asked26 e = rw e refl

  pub asked28 : line.code ≡ 28 → are_asked x line ≡ are_alike x line
  asked28 e = rw e refl

  pub asked29 : line.code ≡ 29 → are_asked x line ≡ (are_alike x line && is_of_kind x line 2 BoolKind)
  asked29 e = rw e refl

  pub asked34 : line.code ≡ 34 → are_asked x line ≡ are_arguments x line (operation x.pool line)
  asked34 e = rw e refl

  pub asked38 : line.code ≡ 38 → are_asked x line ≡ (is_of_kind x line 0 Place && is_of_kind x line 1 Int)
  asked38 e = rw e refl

  pub asked43 : line.code ≡ 43 → are_asked x line ≡ is_variable (stated x.pool (operand line 0))
  asked43 e = rw e refl

  pub asked44 : line.code ≡ 44 → are_asked x line ≡ (is_of_kind x line 0 Place && is_of_kind x line 1 Int)
  asked44 e = rw e refl

  pub asked46 : line.code ≡ 46 → are_asked x line ≡ (is_of_kind x line 0 Place && is_of_kind x line 1 Int && is_of_kind x line 2 Int)
  asked46 e = rw e refl

  pub asked11 : line.code ≡ 11 → are_asked x line ≡ (length line.numbers == 1 || is_of_kind x line 2 BoolKind)
  asked11 e = rw e refl

  pub asked12 : line.code ≡ 12 → are_asked x line ≡ is_of_kind x line 0 Int
  asked12 e = rw e refl

  pub instr2 : line.code ≡ 2 → instruction x line ≡ Bin (set_by line) (bin_of (plain line 0)) (ty_at x line 0) (at x line 0) (at x line 1)
  unfolding instruction
  instr2 e = rw e refl

  pub instr3 : line.code ≡ 3 → instruction x line ≡ Cast (set_by line) (cast_of (plain line 0)) (at x line 0)
  unfolding instruction
  instr3 e = rw e refl

  pub instr20 : line.code ≡ 20 → instruction x line ≡ Load (number_of line) 1 (array x (place_named x line)) (index x (place_named x line))
  unfolding instruction
  instr20 e = rw e refl

  pub instr26 : line.code ≡ 26 → instruction x line ≡ Copy (set_by line) (own_ty x line) (part_taken x line)
  unfolding instruction
  instr26 e = rw e refl

  pub instr28 : line.code ≡ 28 → instruction x line ≡ Cmp (set_by line) (cmp_of (plain line 0)) (ty_at x line 0) (at x line 0) (at x line 1)
  unfolding instruction
  instr28 e = rw e refl

  pub instr29 : line.code ≡ 29 → instruction x line ≡ Select (set_by line) (ty_at x line 0) (at x line 2) (at x line 0) (at x line 1)
  unfolding instruction
  instr29 e = rw e refl

  pub instr34 : line.code ≡ 34 → instruction x line ≡ called x line (operation x.pool line)
  unfolding instruction
  instr34 e = rw e refl

  pub instr38 : line.code ≡ 38 → instruction x line ≡ Atomic (set_by line) (rmw_of (plain line 0)) (array x (place_named x line)) (index x (place_named x line)) (at x line 1)
  unfolding instruction
  instr38 e = rw e refl

  pub instr43 : line.code ≡ 43 → instruction x line ≡ Copy (set_by line) ty.Int (at x line 2)
  unfolding instruction
  instr43 e = rw e refl

  pub instr44 : line.code ≡ 44 → instruction x line ≡ Store 1 (array x (place_named x line)) (index x (place_named x line)) (at x line 1) no_value no_value no_value
  unfolding instruction
  instr44 e = rw e refl

  pub instr46 : line.code ≡ 46 → instruction x line ≡ Swap (number_of line) (array x (place_named x line)) (index x (place_named x line)) (at x line 1) (at x line 2)
  unfolding instruction
  instr46 e = rw e refl

  pub instr-other : IsOther line.code → instruction x line ≡ Nothing
  unfolding instruction
  instr-other n = rw (n.no2, n.no3, n.no20, n.no26, n.no28, n.no29, n.no34, n.no38, n.no43, n.no44, n.no46) refl

  pub place20 : line.code ≡ 20 → place_named x line ≡ place_of x (operand line 0)
  unfolding place_named
  place20 e = rw e refl

  pub place38 : line.code ≡ 38 → place_named x line ≡ place_of x (operand line 0)
  unfolding place_named
  place38 e = rw e refl

  pub place44 : line.code ≡ 44 → place_named x line ≡ place_of x (operand line 0)
  unfolding place_named
  place44 e = rw e refl

  pub place46 : line.code ≡ 46 → place_named x line ≡ place_of x (operand line 0)
  unfolding place_named
  place46 e = rw e refl

  pub place43 : line.code ≡ 43 → place_named x line ≡ place_made x line
  unfolding place_named
  place43 e = rw e refl
