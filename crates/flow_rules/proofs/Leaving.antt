-- Which branch edges enter and leave rows, by the tables.
use Rattle.std.proofs.Common.{ℕ, zero, suc, ◌≡◌, ◌≢◌, ◌<◌, ◌≤◌, ◌+◌, inl, inr, refl, sym, subst, arith, List}
use Rattle.std.proofs.lemmas.Bool.{cases_lt}
use Rattle.flow_rules.specs.Blocks.{BasicBlock}
use Rattle.flow_rules.specs.declared.block.Merge.{Merge}
use Rattle.flow_rules.specs.Flow.{Row, In, Loops, selection, loop_construct, continue_construct, IsRow, is_construct, is_loop, is_case, InnermostLoop, InnermostSwitch, IsSwitchRow}
use Rattle.flow_rules.specs.Rules.{BreaksEdge, s9}
use Rattle.flow_rules.specs.Lists.{FirstEnd, LastOver, SpanOf, LoopOf, SwitchOf, nested_header, nested_body, nested_case, RowOf, row_nested, row_continue}
use Rattle.flow_rules.proofs.Crossing.{RowWith, whole, nested_row}

module _ (bs : List BasicBlock) where
  -- ---- S9
  row_with : (h f e : ℕ) → RowOf bs h f e → RowWith bs h f e
  row_with h f e (row_nested n) = (nested_row bs h f e n).0
  row_with h f e (row_continue z) =
      record { row = record { of = h; by = z.by; first = f; end = z.by.merge_block }; is_row = is_construct (continue_construct f z.loops refl refl); of_is = refl; first_is = refl; end_is = sym z.end_is }

  row_of : (r : Row) → IsRow bs r → RowOf bs r.of r.first r.end
  row_of r (is_construct (selection s f e)) = row_nested (nested_header (record { by = r.by; header = s.header; first_is = f; end_is = e }))
  row_of r (is_construct (loop_construct c l f e)) = row_nested (nested_body (record { by = r.by; loops = subst (λ (x : ℕ). Loops bs r.of r.by x) (sym e) l; first_is = f }))
  row_of r (is_construct (continue_construct c l f e)) = row_continue (record { by = r.by; loops = subst (λ (x : ℕ). Loops bs r.of r.by x) (sym f) l; end_is = e })
  row_of r (is_loop l) = row_nested (nested_header (record { by = r.by; header = l.loops.header; first_is = l.first_is; end_is = l.end_is }))
  row_of r (is_case c) = row_nested (nested_case (record { by = r.by; is_case = c }))

  pub forward_enters : (p q v : ℕ) → p < q → LastOver (SpanOf (RowOf bs)) 1 q v → p + 1 < v → BreaksEdge bs p q 9
  forward_enters p q zero order z far = absurd (omega arith)
  forward_enters p q (suc f) order z far = go (z.attained f (omega arith)) where
    go : (e : ℕ) × ((h : ℕ) × RowOf bs h f e) × (f + 1 ≤ q) × (q < e) → BreaksEdge bs p q 9
    go (e, (h, n), early, over) =
        let w = row_with h f e n in
        s9 w.row w.is_row (λ i. (let a = i.from in omega (arith, w.first_is))) (record { from = omega (arith, w.first_is); before = omega (arith, w.end_is) }) (λ same. omega (arith, w.first_is))

  pub forward_stays : (p q v : ℕ) → p < q → LastOver (SpanOf (RowOf bs)) 1 q v → v ≤ p + 1 → (r : Row) → IsRow bs r → (In r p → ⊥) → In r q → q ≢ r.first → ⊥
  forward_stays p q v order z near r is out within other =
      let from = within.from in let before = within.before in
      elim (cases_lt p r.first) [
        | inl h ↦ absurd (omega (arith, z.last r.first r.end (r.of, row_of r is) (omega arith) before))
        | inr h ↦ out (record { from = h; before = omega arith })
      ]

  pub back_enters : (count p q v : ℕ) → q ≤ p → p < count → FirstEnd (SpanOf (RowOf bs)) 1 count q v → v ≤ p → BreaksEdge bs p q 9
  back_enters count p q v order low z near = go (z.attained (omega arith)) where
    go : (f : ℕ) × ((h : ℕ) × RowOf bs h f v) × (f + 1 ≤ q) → BreaksEdge bs p q 9
    go (f, (h, n), early) =
        let w = row_with h f v n in
        let behind : q < v = z.behind in
        s9 w.row w.is_row (λ i. (let a = i.before in omega (arith, w.end_is))) (record { from = omega (arith, w.first_is); before = omega (arith, w.end_is) }) (λ same. omega (arith, w.first_is))

  pub back_stays : (count p q v : ℕ) → q ≤ p → FirstEnd (SpanOf (RowOf bs)) 1 count q v → p < v → (r : Row) → IsRow bs r → (In r p → ⊥) → In r q → q ≢ r.first → ⊥
  back_stays count p q v order z far r is out within other =
      let from = within.from in let before = within.before in
      elim (cases_lt p r.end) [
        | inl h ↦ out (record { from = omega arith; before = h })
        | inr h ↦ absurd (omega (arith, z.least r.first r.end (r.of, row_of r is) (omega arith) before))
      ]

  -- ---- the innermost loop and switch
  loop_row : ℕ → Merge → Row
  loop_row h g = whole h g

  module _ (p lv : ℕ) (zl : LastOver (SpanOf (LoopOf bs)) 0 p lv) where
    pub record InnerAt (l : ℕ) : Type 0 where
      pub row : Row
      pub inner : InnermostLoop bs p row
      pub of_is : row.of ≡ l

    pub inner_at : (l : ℕ) → lv ≡ l + 1 → InnerAt l
    inner_at l is = go (zl.attained l is) where
      go : (e : ℕ) × ((h : ℕ) × LoopOf bs h l e) × (l + 0 ≤ p) × (p < e) → InnerAt l
      go (e, (h, z), early, over) = record {
        row = whole h z.by;
        inner = record {
          loop = record { continue_target = z.continue_target; loops = z.loops; first_is = refl; end_is = refl };
          holds = record { from = omega (arith, z.first_is); before = omega (arith, z.end_is) };
          last = λ m im hold. (
              let from = hold.from in
              let f = im.first_is in let a = im.end_is in let before = hold.before in
              let h = zl.last m.of m.by.merge_block (m.of, record { by = m.by; continue_target = im.continue_target; loops = im.loops; first_is = refl; end_is = refl }) (omega arith) (omega arith) in
              omega (arith, z.first_is)
              );
        };
        of_is = sym z.first_is;
      }

    pub inner_is : (r : Row) → InnermostLoop bs p r → lv ≡ r.of + 1
    inner_is r i = go lv refl where
      below : r.of < lv
      below =
          let from = i.holds.from in let before = i.holds.before in
          let f = i.loop.first_is in let e = i.loop.end_is in
          zl.last r.of r.by.merge_block (r.of, record { by = r.by; continue_target = i.loop.continue_target; loops = i.loop.loops; first_is = refl; end_is = refl }) (omega arith) (omega arith)

      go : (v : ℕ) → lv ≡ v → lv ≡ r.of + 1
      go zero is = absurd (omega (arith, below))
      go (suc l) is =
          let at = inner_at l (omega arith) in
          let most = i.last at.row at.inner.loop at.inner.holds in
          omega (arith, below, at.of_is)

    module _ (sv : ℕ) (zs : LastOver (SpanOf (SwitchOf bs)) 0 p sv) where
      pub record SwitchAt (s : ℕ) : Type 0 where
        pub row : Row
        pub inner : InnermostSwitch bs p row
        pub of_is : row.of ≡ s

      switch_below : (r : Row) → IsSwitchRow bs r → In r p → r.of < sv
      switch_below r i hold =
          let from = hold.from in let before = hold.before in
          let f = i.first_is in let e = i.end_is in
          zs.last r.of r.by.merge_block (r.of, record { by = r.by; switches = i.switches; first_is = refl; end_is = refl }) (omega arith) (omega arith)

      pub switch_at : (s : ℕ) → sv ≡ s + 1 → lv ≤ sv → SwitchAt s
      switch_at s is near = go (zs.attained s is) where
        go : (e : ℕ) × ((h : ℕ) × SwitchOf bs h s e) × (s + 0 ≤ p) × (p < e) → SwitchAt s
        go (e, (h, z), early, over) = record {
          row = whole h z.by;
          inner = record {
            switch = record { switches = z.switches; first_is = refl; end_is = refl };
            holds = record { from = omega (arith, z.first_is); before = omega (arith, z.end_is) };
            near = record {
              held = λ l i. (
                  let a = inner_is l i in let f = i.loop.first_is in let before = i.holds.before in
                  record { from = omega (arith, z.first_is); before = omega (arith, z.first_is) }
                  );
            };
            last = λ r ir hold n. (let h = switch_below r ir hold in omega (arith, z.first_is));
          };
          of_is = sym z.first_is;
        }

      pub switch_is : (r : Row) → InnermostSwitch bs p r → (sv ≡ r.of + 1) × (lv ≤ sv)
      switch_is r i = (go sv refl, near lv refl) where
        near : (v : ℕ) → lv ≡ v → lv ≤ sv
        near zero is = omega arith
        near (suc l) is =
            let at = inner_at l (omega arith) in
            let hold = i.near.held at.row at.inner in
            let from = hold.from in
            let f = at.inner.loop.first_is in
            omega (arith, switch_below r i.switch i.holds, at.of_is)

        go : (v : ℕ) → sv ≡ v → sv ≡ r.of + 1
        go zero is = absurd (omega (arith, switch_below r i.switch i.holds))
        go (suc s) is =
            let at = switch_at s (omega arith) (near lv refl) in
            let most = i.last at.row at.inner.switch at.inner.holds at.inner.near in
            omega (arith, switch_below r i.switch i.holds, at.of_is)
