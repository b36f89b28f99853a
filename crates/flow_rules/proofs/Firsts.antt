-- The first broken rule of all stands at the first place at which something is broken.
use Rattle.std.proofs.Common.{ℕ, ◌≡◌, ◌<◌, ◌≤◌, ◌+◌, ◌⊎◌, inl, inr, refl, sym, ap, subst, ◌∙◌, arith, List, [], ◌∷◌, length, slice_get, Some, None}
use Rattle.std.proofs.lemmas.Bool.{cases_lt, cases_eq}
use Rattle.std.proofs.lemmas.Option.{slice_get_within, slice_get-get_or, get_or_from_slice_get}
use Rattle.std.specs.List.{Contains}
use Rattle.dx_base.specs.First.{IsFirst, IsSound}
use Rattle.flow_rules.specs.Blocks.{BasicBlock}
use Rattle.flow_rules.specs.declared.block.Merge.{Merge}
use Rattle.flow_rules.specs.Flow.{At, Header}
use Rattle.flow_rules.specs.Rules.{Strays, Merges, by_stray, by_header, BreaksLabel, s12_unreached, s12_first, BreaksMerge, s2_stray, BreaksEnd, Broken, at_label, at_merge, at_end, AreInOrder, IsClear, IsMergeClear}
use Rattle.flow_rules.specs.Answers.{RuleAnswer, IsTidy}
use Rattle.flow_rules.proofs.Blocks.{at_same, at_below, header_same, some_same, is_less, is_same, is_more, compared}
use Rattle.flow_rules.proofs.Merging.{merge_first}

module _ (bs : List BasicBlock) where
  -- where a broken rule stands, seen from block p, if nothing is broken before it
  pub data Where (p : ℕ) (b : BasicBlock) (rule word : ℕ) : Type 0 where
    later : b.end_word < word → Where p b rule word
    here_label : BreaksLabel bs p rule → word ≡ b.word → Where p b rule word
    here_merge : (f : Merge) → Merges bs p f → BreaksMerge bs p f rule → word ≡ f.word → Where p b rule word
    here_end : BreaksEnd bs p b rule → word ≡ b.end_word → Where p b rule word

  module _ (order : AreInOrder bs) (p : ℕ) (b : BasicBlock) (at : At bs p b) (clear : IsClear bs p) where
    merges_at : (q : ℕ) (f : Merge) → Merges bs q f → (d : BasicBlock) × At bs q d × (d.word < f.word)
    merges_at q f (by_stray s) = (s.block, s.at, order.strays_behind q s.block f s.at s.stray)
    merges_at q f (by_header h) = (h.block, h.at, order.merge_behind q h.block f h.at h.merge)

    pub where_of : (rule word : ℕ) → Broken bs rule word → Where p b rule word
    where_of rule word (at_label q d d_at br) = elim (compared q p) [
      | is_less low ↦ absurd (clear.labels q d rule low d_at br)
      | is_more high ↦ later (order.blocks_rise p q b d at d_at high)
      | is_same same ↦
          let d_here = subst (λ (x : ℕ). At bs x d) same d_at in
          here_label (subst (λ (x : ℕ). BreaksLabel bs x rule) same br) (ap (λ (x : BasicBlock). x.word) (at_same bs p d b d_here at))
    ]
    where_of rule word (at_merge q f m br) = elim (compared q p) [
      | is_less low ↦ absurd (clear.merges q f rule low m br)
      | is_more high ↦ (let (d, d_at, behind) = merges_at q f m in let rise = order.blocks_rise p q b d at d_at high in later (omega arith))
      | is_same same ↦ here_merge f (subst (λ (x : ℕ). Merges bs x f) same m) (subst (λ (x : ℕ). BreaksMerge bs x f rule) same br) refl
    ]
    where_of rule word (at_end q d d_at br) = elim (compared q p) [
      | is_less low ↦ absurd (clear.ends q d rule low d_at br)
      | is_more high ↦ (let rise = order.blocks_rise p q b d at d_at high in let own = order.label_before q d d_at in later (omega arith))
      | is_same same ↦
          let d_here = subst (λ (x : ℕ). At bs x d) same d_at in
          let one = at_same bs p d b d_here at in
          here_end (subst (λ (x : BasicBlock). BreaksEnd bs p x rule) one (subst (λ (x : ℕ). BreaksEnd bs x d rule) same br)) (ap (λ (x : BasicBlock). x.end_word) one)
    ]

    label_only : (k : ℕ) → BreaksLabel bs p k → k ≡ 12
    label_only k (s12_unreached s n) = refl
    label_only k (s12_first q e s) = refl

    merge_words : (f : Merge) → Merges bs p f → (b.word < f.word) × (f.word < b.end_word)
    merge_words f (by_stray s) =
        let one = at_same bs p s.block b s.at at in
        let stray = subst (λ (x : BasicBlock). Contains x.strays f) one s.stray in
        (order.strays_behind p b f at stray, order.strays_before p b f at stray)
    merge_words f (by_header h) =
        let one = at_same bs p h.block b h.at at in
        let merge = subst (λ (x : BasicBlock). x.merge ≡ Some f) one h.merge in
        (order.merge_behind p b f at merge, order.merge_before p b f at merge)

    pub first_label : BreaksLabel bs p 12 → IsFirst (Broken bs) 12 b.word
    first_label br = record { broken = at_label p b at br; least = λ other word x. go other word (where_of other word x) } where
      go : (other word : ℕ) → Where p b other word → (b.word < word) ⊎ ((b.word ≡ word) × (12 ≤ other))
      go other word (later h) = (let own = order.label_before p b at in inl (omega arith))
      go other word (here_label l e) = inr (sym e, (let k = label_only other l in omega arith))
      go other word (here_merge f m l e) = (let (low, high) = merge_words f m in inl (omega arith))
      go other word (here_end l e) = (let own = order.label_before p b at in inl (omega arith))

    module _ (label_clear : BreaksLabel bs p 12 → ⊥) where
      no_label : (k : ℕ) → BreaksLabel bs p k → ⊥
      no_label k l = label_clear (subst (λ (x : ℕ). BreaksLabel bs p x) (label_only k l) l)

      pub first_stray : (f : Merge) → slice_get b.strays 0 ≡ Some f → IsFirst (Broken bs) 2 f.word
      first_stray f is = record { broken = at_merge p f (by_stray stray) (s2_stray stray); least = λ other word x. go other word (where_of other word x) } where
        has_at : (xs : List Merge) (i : ℕ) (x : Merge) → slice_get xs i ≡ Some x → Contains xs x
        has_at xs i x e = (i, slice_get_within xs i x e, get_or_from_slice_get xs i x x e)

        stray : Strays bs p f
        stray = record { block = b; at = at; stray = has_at b.strays 0 f is }

        place_of : (xs : List Merge) (x : Merge) → Contains xs x → (i : ℕ) × (slice_get xs i ≡ Some x)
        place_of xs x (i, inside, e) = (i, slice_get-get_or xs i x inside ∙ ap Some e)

        behind : (g : Merge) → Merges bs p g → (f.word < g.word) ⊎ (f.word ≡ g.word)
        behind g (by_header h) =
            let one = at_same bs p h.block b h.at at in
            inl (order.strays_first p b f g at stray.stray (subst (λ (x : BasicBlock). x.merge ≡ Some g) one h.merge))
        behind g (by_stray s) = by_place (place_of b.strays g (subst (λ (x : BasicBlock). Contains x.strays g) (at_same bs p s.block b s.at at) s.stray)) where
          by_place : (i : ℕ) × (slice_get b.strays i ≡ Some g) → (f.word < g.word) ⊎ (f.word ≡ g.word)
          by_place (i, e) = elim (cases_eq i 0) [
            | inl zero_is ↦ inr (ap (λ (m : Merge). m.word) (some_same f g (sym is ∙ subst (λ (k : ℕ). slice_get b.strays k ≡ Some g) zero_is e)))
            | inr other ↦ inl (order.strays_rise p b 0 i f g at is e (omega arith))
          ]

        go : (other word : ℕ) → Where p b other word → (f.word < word) ⊎ ((f.word ≡ word) × (2 ≤ other))
        go other word (later h) = (let (low, high) = merge_words f (by_stray stray) in inl (omega arith))
        go other word (here_label l e) = absurd (no_label other l)
        go other word (here_merge g m l e) = elim (behind g m) [
          | inl less ↦ inl (omega arith)
          | inr same ↦ inr (same ∙ sym e, elim (cases_lt other 2) [ inl low ↦ absurd ((merge_first bs p g).none other low l) | inr high ↦ high ])
        ]
        go other word (here_end l e) = (let (low, high) = merge_words f (by_stray stray) in inl (omega arith))

      pub no_strays : slice_get b.strays 0 ≡ None → IsTidy bs p
      no_strays none = record { none = λ f s. empty b.strays f none (subst (λ (x : BasicBlock). Contains x.strays f) (at_same bs p s.block b s.at at) s.stray) } where
        empty : (xs : List Merge) (f : Merge) → slice_get xs 0 ≡ None → Contains xs f → ⊥
        empty [] f e (k, below, is) = omega arith
        empty (x ∷ xs) f e c = cc

      pub first_merge : IsTidy bs p → (g : Merge) (rule : ℕ) → b.merge ≡ Some g → RuleAnswer (Some rule) (BreaksMerge bs p g) → IsFirst (Broken bs) rule g.word
      first_merge tidy g rule is (br, least) = record { broken = at_merge p g (by_header head) br; least = λ other word x. go other word (where_of other word x) } where
        head : Header bs p g
        head = record { block = b; at = at; merge = is }

        only : (f : Merge) → Merges bs p f → f ≡ g
        only f (by_stray s) = absurd (tidy.none f s)
        only f (by_header h) = header_same bs p f g h head

        go : (other word : ℕ) → Where p b other word → (g.word < word) ⊎ ((g.word ≡ word) × (rule ≤ other))
        go other word (later h) = (let (low, high) = merge_words g (by_header head) in inl (omega arith))
        go other word (here_label l e) = absurd (no_label other l)
        go other word (here_merge f m l e) =
            let one = only f m in
            inr (sym (ap (λ (x : Merge). x.word) one) ∙ sym e, least other (subst (λ (x : Merge). BreaksMerge bs p x other) one l))
        go other word (here_end l e) = (let (low, high) = merge_words g (by_header head) in inl (omega arith))

      module _ (merge_clear : IsMergeClear bs p) where
        pub first_end : (rule : ℕ) → RuleAnswer (Some rule) (BreaksEnd bs p b) → IsFirst (Broken bs) rule b.end_word
        first_end rule (br, least) = record { broken = at_end p b at br; least = λ other word x. go other word (where_of other word x) } where
          go : (other word : ℕ) → Where p b other word → (b.end_word < word) ⊎ ((b.end_word ≡ word) × (rule ≤ other))
          go other word (later h) = inl h
          go other word (here_label l e) = absurd (no_label other l)
          go other word (here_merge f m l e) = absurd (merge_clear.merges f other m l)
          go other word (here_end l e) = inr (sym e, least other l)

        pub clear_more : RuleAnswer None (BreaksEnd bs p b) → IsClear bs (p + 1)
        clear_more none = record { labels = labels; merges = merges; ends = ends } where
          labels : (q : ℕ) (d : BasicBlock) (rule : ℕ) → q < p + 1 → At bs q d → BreaksLabel bs q rule → ⊥
          labels q d rule h d_at l = elim (cases_lt q p) [
            | inl low ↦ clear.labels q d rule low d_at l
            | inr high ↦ (let same : q ≡ p = omega arith in no_label rule (subst (λ (x : ℕ). BreaksLabel bs x rule) same l))
          ]

          merges : (q : ℕ) (f : Merge) (rule : ℕ) → q < p + 1 → Merges bs q f → BreaksMerge bs q f rule → ⊥
          merges q f rule h m l = elim (cases_lt q p) [
            | inl low ↦ clear.merges q f rule low m l
            | inr high ↦ (let same : q ≡ p = omega arith in merge_clear.merges f rule (subst (λ (x : ℕ). Merges bs x f) same m) (subst (λ (x : ℕ). BreaksMerge bs x f rule) same l))
          ]

          ends : (q : ℕ) (d : BasicBlock) (rule : ℕ) → q < p + 1 → At bs q d → BreaksEnd bs q d rule → ⊥
          ends q d rule h d_at l = elim (cases_lt q p) [
            | inl low ↦ clear.ends q d rule low d_at l
            | inr high ↦ (
                let same : q ≡ p = omega arith in
                let one = at_same bs p d b (subst (λ (x : ℕ). At bs x d) same d_at) at in
                none rule (subst (λ (x : BasicBlock). BreaksEnd bs p x rule) one (subst (λ (x : ℕ). BreaksEnd bs x d rule) same l))
                )
          ]

    -- a block without a merge instruction
    pub clear_none : IsTidy bs p → b.merge ≡ None → IsMergeClear bs p
    clear_none tidy none = record { merges = go } where
      go : (f : Merge) (rule : ℕ) → Merges bs p f → BreaksMerge bs p f rule → ⊥
      go f rule (by_stray s) l = tidy.none f s
      go f rule (by_header h) l = (let m = ap (λ (x : BasicBlock). x.merge) (at_same bs p h.block b h.at at) in let k = h.merge in cc)

    pub clear_some : IsTidy bs p → (g : Merge) → b.merge ≡ Some g → RuleAnswer None (BreaksMerge bs p g) → IsMergeClear bs p
    clear_some tidy g is none = record { merges = go } where
      go : (f : Merge) (rule : ℕ) → Merges bs p f → BreaksMerge bs p f rule → ⊥
      go f rule (by_stray s) l = tidy.none f s
      go f rule (by_header h) l = none rule (subst (λ (x : Merge). BreaksMerge bs p x rule) (header_same bs p f g h (record { block = b; at = at; merge = is })) l)

  pub clear_first : IsClear bs 0
  clear_first = record { labels = λ p b rule h. absurd (omega arith); merges = λ p f rule h. absurd (omega arith); ends = λ p b rule h. absurd (omega arith) }

  pub sound_all : (k : ℕ) → length bs ≤ k → IsClear bs k → IsSound (Broken bs)
  sound_all k all clear = record { none = go } where
    go : (rule word : ℕ) → Broken bs rule word → ⊥
    go rule word (at_label p b at l) = clear.labels p b rule (let h = at_below bs p b at in omega arith) at l
    go rule word (at_merge p f m l) = clear.merges p f rule (within m) m l where
      within : Merges bs p f → p < k
      within (by_stray s) = let h = at_below bs p s.block s.at in omega arith
      within (by_header h) = let w = at_below bs p h.block h.at in omega arith
    go rule word (at_end p b at l) = clear.ends p b rule (let h = at_below bs p b at in omega arith) at l
