-- A function whose code is a row breaks no structure rule.
use Rattle.std.proofs.Common.{◌≡◌, inl, inr, ℕ, suc, ◌+◌, ◌<◌, ◌≤◌, true, false, eqb, ne_eqb, cond, List, [], ◌∷◌, ◌++◌, length, length-append, get_or, Some, None, refl, sym, ap, ◌∙◌, subst, arith}
use Rattle.std.proofs.lemmas.Bool.{cases_lt}
use Rattle.std.proofs.lemmas.List.Sums.{position_or_len_is}
use Rattle.std.proofs.lemmas.Option.{slice_get-map, slice_get-get_or}
use Rattle.std.specs.Prelude.{slice_get, map, nat_lt}
use Rattle.std.specs.Option.{option_map, unwrap_or}
use Rattle.dx_base.specs.First.{IsSound}
use Rattle.spv_form.specs.declared.module.Inst.{Inst}
use Rattle.spv_form.specs.Words.{size_of}
use Rattle.flow_rules.specs.Blocks.{BasicBlock}
use Rattle.flow_rules.specs.declared.block.Terminator.TheVariants.{BranchConditional, Return}
use Rattle.flow_rules.specs.Flow.{At}
use Rattle.flow_rules.specs.Rules.{Forks, Broken}
use Rattle.flow_blocks.specs.Blocks.{Labeled, labeled_blocks}
use Rattle.flow_blocks.specs.Numbered.{has_label, number_of, numbered_block, numbered, blocks_of}
use Rattle.row_laws.specs.Rows.{Fine, Neat, Whole}
use Rattle.row_laws.proofs.Basics.{none_some, at_same}
use Rattle.row_laws.proofs.Whole as rows
use Rattle.written_rows.specs.Code.{label_inst, return_inst, AreInner, labels, RowCode}
use Rattle.written_rows.specs.Laws.{EachOnce, WrittenRowsAreSound}
use Rattle.written_rows.proofs.Steps.{map_append, length_map, get_front, get_past, get_below, open_at, word_at, blocks, blocks_are, blocks_append, opened, inner_none, inner_blocks_none}
use Rattle.written_rows.proofs.Ends.{name_of, Ends, ends_count, row_ends}
use Rattle.written_rows.proofs.Standing.{Here, Good}
use Rattle.written_rows.proofs.Rows.{row_good}

-- ---- the number of a label that stands once

same_eqb : (n : ℕ) → eqb n n ≡ true
same_eqb n = grind arith

less : (x y : ℕ) → x < y → nat_lt x y ≡ true
less x y h = grind arith

inj : {A : Type 0} {x y : A} → Some x ≡ Some y → x ≡ y
inj e = cc

number_is : (ls : List Labeled) (d : Labeled) (i id : ℕ) → slice_get (map name_of ls) i ≡ Some id → ((j : ℕ) → slice_get (map name_of ls) j ≡ Some id → j ≡ i) → number_of ls id ≡ i
number_is ls d i id e only =
    let count = length_map name_of ls in
    let low = get_below (map name_of ls) i id e in
    let within : i < length ls = omega (arith, low, count) in
    let first = position_or_len_is (has_label id) ls i d (omega (arith, within)) (λ k lt. ne_eqb (get_or ls k d).label id (λ same. (let is = only k (name_at k (omega (arith, lt, within)) ∙ ap Some same) in omega (arith, is, lt)))) (λ lt. ap (λ n. eqb n id) (inj (sym (name_at i within) ∙ e)) ∙ same_eqb id) in
    ap (λ n. unwrap_or (cond (nat_lt n (length ls)) (Some n) None) 0) first ∙ ap (λ b. unwrap_or (cond b (Some i) None) 0) (less i (length ls) within)
  where
    name_at : (k : ℕ) → k < length ls → slice_get (map name_of ls) k ≡ Some (get_or ls k d).label
    name_at k lt = slice_get-map name_of ls k ∙ ap (option_map name_of) (slice_get-get_or ls k d lt)

-- ---- the function

module _ (depth : ℕ) (front code back : List Inst) (label : ℕ) (before : AreInner front) (row : RowCode depth false label code) (behind : AreInner back) (once : EachOnce (label ∷ labels code)) where
  abbrev pub v : ℕ
  v = word_at 5 front

  abbrev pub w : ℕ
  w = v + size_of (label_inst label)

  abbrev pub tail : List Inst
  tail = return_inst ∷ back

  pub ends : Ends label v w code
  ends = row_ends depth false label code row v w

  abbrev pub n : ℕ
  n = length (labels code)

  abbrev pub inner : List Labeled
  inner = blocks (Some (opened label v)) w code

  -- the block that returns
  abbrev pub last : Labeled
  last =
      record { label = ends.last; block = record { word = ends.word; strays = []; merge = None; terminator = Return; end_word = word_at w code; targets = [] } }

  abbrev pub ls : List Labeled
  ls = inner ++ (last ∷ [])

  pub blocks_is : labeled_blocks (front ++ (label_inst label ∷ (code ++ tail))) ≡ ls
  blocks_is =
      let rest : List Inst = label_inst label ∷ (code ++ tail) in
      let u = word_at w code in
      blocks_are None 5 (front ++ rest)
      ∙ blocks_append None 5 front rest
      ∙ ap (λ ds. ds ++ blocks (open_at None 5 front) v rest) (inner_blocks_none 5 front before)
      ∙ ap (λ o. blocks o v rest) (inner_none 5 front before)
      ∙ blocks_append (Some (opened label v)) w code tail
      ∙ ap (λ o. inner ++ blocks o u tail) ends.open_is
      ∙ ap (λ ds. inner ++ (last ∷ ds)) (inner_blocks_none (u + size_of return_inst) back behind)

  pub names_are : map name_of ls ≡ label ∷ labels code
  names_are = map_append name_of inner (last ∷ []) ∙ ends.names

  pub count : length inner ≡ n
  count = ends_count label v w code ends

  abbrev pub number : ℕ → ℕ
  number = number_of ls

  abbrev pub block : Labeled → BasicBlock
  block d = numbered_block number d.block

  abbrev pub bs : List BasicBlock
  bs = numbered ls

  number_at : (i id : ℕ) → slice_get (label ∷ labels code) i ≡ Some id → number id ≡ i
  number_at i id e =
      number_is ls last i id (ap (λ xs. slice_get xs i) names_are ∙ e) (λ j f. once j i id (sym (ap (λ xs. slice_get xs j) names_are) ∙ f) e)

  pub at : (i : ℕ) (d : Labeled) → slice_get ls i ≡ Some d → At bs i (block d)
  at i d e = slice_get-map block ls i ∙ ap (option_map block) e

  pub last_at : At bs n (block last)
  last_at =
      let same : length inner + 0 ≡ n = omega (arith, count) in
      subst (λ p. At bs p (block last)) same (at (length inner + 0) last (get_past inner (last ∷ []) 0))

  pub here : Here bs number label v w 0 code
  here =
      record {
        stands = λ i d e. (let same : i ≡ 0 + i = omega arith in subst (λ p. At bs p (block d)) same (at i d (get_front inner (last ∷ []) i d e)));
        numbered = λ i id e. (let is = number_at (suc i) id e in omega (arith, is));
        here = number_at 0 label refl;
      }

  pub good : Good bs number false 0 n
  good = row_good bs number depth false label code row v w 0 here

  pub all : (p : ℕ) (b : BasicBlock) → At bs p b → p ≤ n
  all p b e =
      let low = get_below bs p b e in
      let one = length_map block ls in
      let two = length-append inner (last ∷ []) in
      omega (arith, low, one, two, count)

  return_neat : Neat bs n (block last)
  return_neat =
      record { tidy = refl; suits = λ g e. absurd (none_some g e); closes = λ forks e. absurd (no_fork forks); two = λ q e f. no_conditional e }
    where
      no_fork : Forks Return → ⊥
      no_fork h = elim h [ ]

      no_conditional : Return ≡ BranchConditional → ⊥
      no_conditional e = cc

  whole : Whole bs n
  whole =
      let end : 0 + n + 1 ≡ n + 1 = omega arith in
      record {
        row = subst (Fine bs 0) end good.fine;
        all = all;
        returns = (block last, last_at, refl, refl);
        only_return = λ p b e t. elim (cases_lt p n) [
          | inl lt ↦ absurd ((good.neat p b (omega arith) (omega (arith, lt)) e).1 t)
          | inr ge ↦ (let le = all p b e in omega (arith, ge, le))
        ];
        neat = λ p b e. elim (cases_lt p n) [
          | inl lt ↦ (good.neat p b (omega arith) (omega (arith, lt)) e).0
          | inr ge ↦ (let le = all p b e in let same : p ≡ n = omega (arith, ge, le) in
              let is : block last ≡ b = at_same bs n (block last) b last_at (subst (λ q. At bs q b) same e) in
              subst (λ q. Neat bs q b) (sym same) (subst (Neat bs n) is return_neat))
        ];
        first = λ g l. elim (cases_lt 0 n) [
          | inl lt ↦ good.first refl lt g l
          | inr le ↦ (let same : n ≡ 0 = omega (arith, le) in
              none_some g (ap (λ (b : BasicBlock). b.merge) (at_same bs 0 (block last) l.0.0 (subst (λ q. At bs q (block last)) same last_at) l.0.1.0) ∙ l.0.1.1))
        ];
      }

  pub broken_none : IsSound (Broken (blocks_of (front ++ (label_inst label ∷ (code ++ (return_inst ∷ back))))))
  broken_none = subst (λ ds. IsSound (Broken (numbered ds))) (sym blocks_is) (rows.sound bs n whole)

pub sound : WrittenRowsAreSound
sound depth front code back label before row behind once =
    broken_none depth front code back label before row behind once
