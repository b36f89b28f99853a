-- Where the code of a row ends: in an open block in which no merge instruction stands. Each label of the code has a block.
use Rattle.std.proofs.Common.{◌≡◌, ℕ, ◌+◌, Bool, List, [], ◌∷◌, ◌++◌, length, length-append, append_assoc, Some, None, refl, sym, ap, ◌∙◌, subst, arith}
use Rattle.std.specs.Prelude.{map}
use Rattle.spv_form.specs.declared.module.Inst.{Inst}
use Rattle.spv_form.specs.Words.{size_of}
use Rattle.flow_rules.specs.declared.block.MergeKind.TheVariants.{Selection}
use Rattle.flow_rules.specs.declared.block.Terminator.{Terminator}
use Rattle.flow_rules.specs.declared.block.Terminator.TheVariants.{BranchConditional, Switch}
use Rattle.flow_rules.specs.Rules.{Suits, selection_conditional, selection_switch}
use Rattle.flow_blocks.specs.Blocks.{Labeled, Open, open_after, ended_at}
use Rattle.written_rows.specs.Code.{label_inst, branch_inst, selection_inst, loop_inst, fork_inst, AreInner, labels, Parting, Forking, conditional, switch, RowCode, nothing, more, onward, select, cycle, ArmsCode, no_arm, arm}
use Rattle.written_rows.proofs.Steps.{map_append, append_none, length_map, labels_append, open_at, word_at, blocks, open_append, blocks_append, opened, inner_labels, inner_open, inner_blocks}

abbrev pub name_of : Labeled → ℕ
name_of d = d.label

-- Behind the label l, which stands at word v: the code stands at word w, and the block that is open at its end has the label `last`, which stands at `word`.
pub record Ends (l v w : ℕ) (zs : List Inst) : Type 0 where
  pub last : ℕ
  pub word : ℕ
  pub open_is : open_at (Some (opened l v)) w zs ≡ Some (opened last word)
  pub names : map name_of (blocks (Some (opened l v)) w zs) ++ (last ∷ []) ≡ l ∷ labels zs

-- arms stand behind a terminator, and end in one
pub record Closes (w : ℕ) (zs : List Inst) : Type 0 where
  pub open_is : open_at None w zs ≡ None
  pub names : map name_of (blocks None w zs) ≡ labels zs

-- as many blocks as labels
pub ends_count : (l v w : ℕ) (zs : List Inst) → Ends l v w zs → length (blocks (Some (opened l v)) w zs) ≡ length (labels zs)
ends_count l v w zs e =
    let ds = blocks (Some (opened l v)) w zs in
    let one = length-append (map name_of ds) (e.last ∷ []) in
    let two = ap length e.names in
    let three = length_map name_of ds in
    omega (arith, one, two, three)

pub ends_then : (l v w : ℕ) (xs ys : List Inst) (e : Ends l v w xs) → Ends e.last e.word (word_at w xs) ys → Ends l v w (xs ++ ys)
ends_then l v w xs ys e f =
    let start = Some (opened l v) in
    let there = word_at w xs in
    let front = blocks start w xs in
    let back = blocks (Some (opened e.last e.word)) there ys in
    let both : blocks start w (xs ++ ys) ≡ front ++ back = blocks_append start w xs ys ∙ ap (λ o. front ++ blocks o there ys) e.open_is in
    record {
      last = f.last;
      word = f.word;
      open_is = open_append start w xs ys ∙ ap (λ o. open_at o there ys) e.open_is ∙ f.open_is;
      names = ap (λ ds. map name_of ds ++ (f.last ∷ [])) both
          ∙ ap (λ ns. ns ++ (f.last ∷ [])) (map_append name_of front back)
          ∙ append_assoc (map name_of front) (map name_of back) (f.last ∷ [])
          ∙ ap (λ ns. map name_of front ++ ns) f.names
          ∙ sym (append_assoc (map name_of front) (e.last ∷ []) (labels ys))
          ∙ ap (λ ns. ns ++ labels ys) e.names
          ∙ ap (λ ns. l ∷ ns) (sym (labels_append xs ys));
    }

pub inner_ends : (l v w : ℕ) (xs : List Inst) → AreInner xs → Ends l v w xs
inner_ends l v w xs h =
    record {
      last = l;
      word = v;
      open_is = inner_open l v w xs h;
      names = ap (λ ds. map name_of ds ++ (l ∷ [])) (inner_blocks l v w xs h) ∙ ap (λ ns. l ∷ ns) (sym (inner_labels xs h));
    }

-- what a terminator with several ways does
pub record Forked (meet : ℕ) (ids : List ℕ) (x : Inst) (ways : List ℕ) : Type 0 where
  pub kind : Terminator
  pub closed : (o : Open) (w : ℕ) → open_after (Some o) w x ≡ None
  pub ended_is : (o : Open) (w : ℕ) → ended_at (Some o) w x ≡ record { label = o.label; block = record { word = o.word; strays = o.strays; merge = o.merge; terminator = kind; end_word = w; targets = ways } } ∷ []
  pub unlabeled : (xs : List Inst) → labels (x ∷ xs) ≡ labels xs
  pub suits : Suits Selection kind
  pub parts : (q : ℕ) (f : ℕ → ℕ) → kind ≡ BranchConditional → map f ways ≡ q ∷ q ∷ [] → (there : ℕ) × (other : ℕ) × Parting meet ids there other × (f there ≡ f other)

pub forked : (meet : ℕ) (ids : List ℕ) (x : Inst) (ways : List ℕ) → Forking meet ids x ways → Forked meet ids x ways
forked meet ids x ways (conditional cond there other p) =
    record {
      kind = BranchConditional;
      closed = λ o w. refl;
      ended_is = λ o w. refl;
      unlabeled = λ xs. refl;
      suits = selection_conditional;
      parts = λ q f k e. (there, other, p, first_same e ∙ sym (second_same e));
    }
  where
    first_same : {a b q : ℕ} → a ∷ b ∷ [] ≡ q ∷ q ∷ [] → a ≡ q
    first_same e = cc

    second_same : {a b q : ℕ} → a ∷ b ∷ [] ≡ q ∷ q ∷ [] → b ≡ q
    second_same e = cc
forked meet ids x ways (switch value default words) =
    record {
      kind = Switch;
      closed = λ o w. refl;
      ended_is = λ o w. refl;
      unlabeled = λ xs. refl;
      suits = selection_switch;
      parts = λ q f k e. absurd (other_kind k);
    }
  where
    other_kind : Switch ≡ BranchConditional → ⊥
    other_kind e = cc

-- the block that a selection's terminator ends
abbrev pub header_block : (l v w meet : ℕ) → Terminator → List ℕ → Labeled
header_block l v w meet kind ways =
    record { label = l; block = record { word = v; strays = []; merge = Some (record { word = w; kind = Selection; merge_block = meet }); terminator = kind; end_word = w + size_of (selection_inst meet); targets = ways } }

pub fork_blocks : (meet : ℕ) (ids : List ℕ) (x : Inst) (ways : List ℕ) (f : Forked meet ids x ways) (l v w : ℕ) (rest : List Inst) → blocks (Some (opened l v)) w (selection_inst meet ∷ x ∷ rest) ≡ header_block l v w meet f.kind ways ∷ blocks None (w + size_of (selection_inst meet) + size_of x) rest
fork_blocks meet ids x ways f l v w rest =
    let o : Open = record { label = l; word = v; strays = []; merge = Some (record { word = w; kind = Selection; merge_block = meet }) } in
    let next = w + size_of (selection_inst meet) in
    ap (λ ds. ds ++ blocks (open_after (Some o) next x) (next + size_of x) rest) (f.ended_is o next) ∙ ap (λ p. header_block l v w meet f.kind ways ∷ blocks p (next + size_of x) rest) (f.closed o next)

pub fork_open : (meet : ℕ) (ids : List ℕ) (x : Inst) (ways : List ℕ) (f : Forked meet ids x ways) (l v w : ℕ) (rest : List Inst) → open_at (Some (opened l v)) w (selection_inst meet ∷ x ∷ rest) ≡ open_at None (w + size_of (selection_inst meet) + size_of x) rest
fork_open meet ids x ways f l v w rest =
    let o : Open = record { label = l; word = v; strays = []; merge = Some (record { word = w; kind = Selection; merge_block = meet }) } in
    let next = w + size_of (selection_inst meet) in
    ap (λ p. open_at p (next + size_of x) rest) (f.closed o next)

-- a branch to a label, the label, and what stands behind it
pub onward_ends : (l v w next : ℕ) (ys : List Inst) → Ends next (w + size_of (branch_inst next)) (w + size_of (branch_inst next) + size_of (label_inst next)) ys → Ends l v w (branch_inst next ∷ label_inst next ∷ ys)
onward_ends l v w next ys e =
    record { last = e.last; word = e.word; open_is = e.open_is; names = ap (λ ns. l ∷ ns) e.names }

select_ends : (meet : ℕ) (ids : List ℕ) (x : Inst) (ways : List ℕ) (f : Forked meet ids x ways) (l v w : ℕ) (arms : List Inst) → Closes (w + size_of (selection_inst meet) + size_of x) arms → Ends l v w (selection_inst meet ∷ x ∷ (arms ++ (label_inst meet ∷ [])))
select_ends meet ids x ways f l v w arms c =
    let next = w + size_of (selection_inst meet) + size_of x in
    let end = word_at next arms in
    let tail = label_inst meet ∷ [] in
    let rest = arms ++ tail in
    let open_rest : open_at None next rest ≡ Some (opened meet end) = open_append None next arms tail ∙ ap (λ o. open_at o end tail) c.open_is in
    let blocks_rest : blocks None next rest ≡ blocks None next arms = blocks_append None next arms tail ∙ ap (λ o. blocks None next arms ++ blocks o end tail) c.open_is ∙ append_none (blocks None next arms) in
    record {
      last = meet;
      word = end;
      open_is = fork_open meet ids x ways f l v w rest ∙ open_rest;
      names = ap (λ ds. map name_of ds ++ (meet ∷ [])) (fork_blocks meet ids x ways f l v w rest)
          ∙ ap (λ ds. (l ∷ map name_of ds) ++ (meet ∷ [])) blocks_rest
          ∙ ap (λ ns. (l ∷ ns) ++ (meet ∷ [])) c.names
          ∙ ap (λ ns. l ∷ ns) (sym (labels_append arms tail) ∙ sym (f.unlabeled rest));
    }

cycle_front : (l v w meet next first : ℕ) (ys : List Inst) → ((a b : ℕ) → Ends first a b ys) → Ends l v w (loop_inst meet next ∷ branch_inst first ∷ label_inst first ∷ ys)
cycle_front l v w meet next first ys h =
    let a = w + size_of (loop_inst meet next) + size_of (branch_inst first) in
    let e = h a (a + size_of (label_inst first)) in
    record { last = e.last; word = e.word; open_is = e.open_is; names = ap (λ ns. l ∷ ns) e.names }

cycle_back : (l v w cond there other meet : ℕ) → Ends l v w (fork_inst cond there other ∷ label_inst meet ∷ [])
cycle_back l v w cond there other meet =
    record { last = meet; word = w + size_of (fork_inst cond there other); open_is = refl; names = refl }

arm_closes : (w meet label : ℕ) (body rest : List Inst) (e : Ends label w (w + size_of (label_inst label)) body) → Closes (word_at (w + size_of (label_inst label)) body + size_of (branch_inst meet)) rest → Closes w (label_inst label ∷ (body ++ (branch_inst meet ∷ rest)))
arm_closes w meet label body rest e c =
    let b = w + size_of (label_inst label) in
    let start = Some (opened label w) in
    let p = word_at b body in
    let tail : List Inst = branch_inst meet ∷ rest in
    let front = blocks start b body in
    let after = blocks None (p + size_of (branch_inst meet)) rest in
    let open_rest : open_at start b (body ++ tail) ≡ None = open_append start b body tail ∙ ap (λ o. open_at o p tail) e.open_is ∙ c.open_is in
    let blocks_rest : blocks start b (body ++ tail) ≡ front ++ blocks (Some (opened e.last e.word)) p tail = blocks_append start b body tail ∙ ap (λ o. front ++ blocks o p tail) e.open_is in
    record {
      open_is = open_rest;
      names = ap (map name_of) blocks_rest
          ∙ map_append name_of front (blocks (Some (opened e.last e.word)) p tail)
          ∙ sym (append_assoc (map name_of front) (e.last ∷ []) (map name_of after))
          ∙ ap (λ ns. ns ++ map name_of after) e.names
          ∙ ap (λ ns. (label ∷ labels body) ++ ns) c.names
          ∙ ap (λ ns. label ∷ ns) (sym (labels_append body tail));
    }

mutual
  pub row_ends : (d : ℕ) (b : Bool) (l : ℕ) (zs : List Inst) → RowCode d b l zs → (v w : ℕ) → Ends l v w zs
  row_ends d b l zs (nothing depth label) v w = record { last = l; word = v; open_is = refl; names = refl }
  row_ends d b l zs (more depth loops label xs ys all row inner is) v w =
      let e = row_ends _ b l xs row v w in
      subst (Ends l v w) (sym is) (ends_then l v w xs ys e (inner_ends e.last e.word (word_at w xs) ys inner))
  row_ends d b l zs (onward depth loops again label next xs ys all row rest is) v w =
      let e = row_ends _ b l xs row v w in
      let there = word_at w xs in
      let f = row_ends depth again next ys rest (there + size_of (branch_inst next)) (there + size_of (branch_inst next) + size_of (label_inst next)) in
      subst (Ends l v w) (sym is) (ends_then l v w xs (branch_inst next ∷ label_inst next ∷ ys) e (onward_ends e.last e.word there next ys f))
  row_ends d b l zs (select depth loops label meet ids ways x xs arms all row fork are body is) v w =
      let e = row_ends _ b l xs row v w in
      let there = word_at w xs in
      let c = arms_close depth meet ids arms body (there + size_of (selection_inst meet) + size_of x) in
      subst (Ends l v w) (sym is) (ends_then l v w xs (selection_inst meet ∷ x ∷ (arms ++ (label_inst meet ∷ []))) e (select_ends meet ids x ways (forked meet ids x ways fork) e.last e.word there arms c))
  row_ends d b l zs (cycle depth again label meet next first cond there other body test all row inner round is) v w =
      let tail = fork_inst cond there other ∷ label_inst meet ∷ [] in
      let second : List Inst = branch_inst next ∷ label_inst next ∷ (test ++ tail) in
      let rest : (a b : ℕ) → Ends first a b (body ++ second) = λ a b. (let e = row_ends depth again first body row a b in let p = word_at b body in let q = p + size_of (branch_inst next) in let t = inner_ends next q (q + size_of (label_inst next)) test inner in
      ends_then first a b body second e (onward_ends e.last e.word p next (test ++ tail) (ends_then next q (q + size_of (label_inst next)) test tail t (cycle_back t.last t.word (word_at (q + size_of (label_inst next)) test) cond there other meet)))) in
      subst (Ends l v w) (sym is) (cycle_front l v w meet next first (body ++ second) rest)

  pub arms_close : (d meet : ℕ) (ids : List ℕ) (zs : List Inst) → ArmsCode d meet ids zs → (w : ℕ) → Closes w zs
  arms_close d meet ids zs (no_arm depth m) w = record { open_is = refl; names = refl }
  arms_close d meet ids zs (arm depth loops m label others body rest all row arms is) w =
      let b = w + size_of (label_inst label) in
      let e = row_ends depth loops label body row w b in
      let p = word_at b body in
      let c = arms_close depth meet others rest arms (p + size_of (branch_inst meet)) in
      subst (Closes w) (sym is) (arm_closes w meet label body rest e c)
