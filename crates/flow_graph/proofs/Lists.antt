-- Taking a number out of linked lists, and putting one in.
use Rattle.std.proofs.Common.{◌≡◌, ◌≢◌, ◌⊎◌, inl, inr, ℕ, ◌+◌, ◌<◌, ◌≤◌, Bool, true, false, not, ◌&&◌, eqb, Option, Some, None, sym, refl, ap, subst, ◌∙◌, arith, eq-eqb, ne_eqb}
use Rattle.std.proofs.lemmas.Bool.{cases_Bool, cases_eq, cases_lt, both_ways, and_parts, and_from, and_left, and_right, not_from_false}
use Rattle.flow_graph.specs.Links.{IsLast, Linked, without}

-- p at all but c
minus : ℕ → (ℕ → Bool) → ℕ → Bool
minus c p x = p x && not (eqb x c)

module _ (p : ℕ → Bool) (c : ℕ) where
  pub without_false : (x : ℕ) → p x ≡ false → (p x && not (eqb x c)) ≡ false
  without_false x h = and_left (p x) _ h

  pub without_at : (p c && not (eqb c c)) ≡ false
  without_at = and_right (p c) _ (elim (cases_Bool (eqb c c)) [
    | inl t ↦ (let e : not (eqb c c) ≡ not true = ap not t in e)
    | inr f ↦ absurd (both_ways _ f (eq-eqb c c refl))
  ])

  pub without_true : (x : ℕ) → p x ≡ true → x ≢ c → (p x && not (eqb x c)) ≡ true
  without_true x h n = and_from (p x) _ h (not_from_false (eqb x c) (ne_eqb x c n))

  pub last_other : (n : ℕ) (r : Option ℕ) → IsLast p n r → r ≢ Some c → IsLast (λ x. p x && not (eqb x c)) n r
  last_other n None h m = λ x l. without_false x (h x l)
  last_other n (Some r) (l, t, h) m = (l, without_true r t (λ e. m (ap Some e)), λ x k j. without_false x (h x k j))

  pub last_skip : (n : ℕ) (r : Option ℕ) → IsLast p n (Some c) → IsLast p c r → IsLast (λ x. p x && not (eqb x c)) n r
  last_skip n None (l, t, h) k = λ x j. elim (cases_lt x c) [
    | inl b ↦ without_false x (k x b)
    | inr g ↦ elim (cases_eq x c) [
      | inl e ↦ (let P : ℕ → Type 0 = λ y. (p y && not (eqb y c)) ≡ false in subst P (sym e) without_at)
      | inr o ↦ without_false x (h x (omega arith) j)
    ]
  ]
  last_skip n (Some r) (l, t, h) (rl, rt, k) = (
    omega arith,
    without_true r rt (omega arith),
    λ x i j. elim (cases_lt x c) [
      | inl b ↦ without_false x (k x i b)
      | inr g ↦ elim (cases_eq x c) [
        | inl e ↦ (let P : ℕ → Type 0 = λ y. (p y && not (eqb y c)) ≡ false in subst P (sym e) without_at)
        | inr o ↦ without_false x (h x (omega arith) j)
      ]
    ],
  )

-- each number is in one list at most
abbrev pub OneKey : (ℕ → ℕ → Bool) → Type 0
OneKey m = (a b x : ℕ) → m a x ≡ true → m b x ≡ true → a ≡ b

module _ (n keys : ℕ) (m : ℕ → ℕ → Bool) (f nx : ℕ → Option ℕ) (lists : Linked n keys m f nx) (one : OneKey m)
    (a c : ℕ) (below : c < n) (here : m a c ≡ true) where
  -- no link but that of the next member above leads to c
  link_is : (b x u : ℕ) → IsLast (m b) u (Some c) → b ≡ a
  link_is b x u (_, t, _) = one b a c t here

  pub cut_below : (p : ℕ) → c < p → p < n → m a p ≡ true → ((x : ℕ) → c < x → x < p → m a x ≡ false)
      → (nx' : ℕ → Option ℕ) → nx' p ≡ nx c → ((x : ℕ) → x ≢ p → nx' x ≡ nx x)
      → Linked n keys (without c m) f nx'
  cut_below p cp pn mp gap nx' at other = record {
    heads = λ b l. last_other (m b) c n (f b) (lists.heads b l) (head_not b l);
    nexts = λ b x l h. next b x l (and_parts (m b x) _ h);
  }
    where
      P : (r : Option ℕ) (b u : ℕ) → IsLast (m b) u r → r ≡ Some c → IsLast (m b) u (Some c)
      P r b u h e = let Q : Option ℕ → Type 0 = λ o. IsLast (m b) u o in subst Q e h

      head_not : (b : ℕ) → b < keys → f b ≢ Some c
      head_not b l e =
          let h = P (f b) b n (lists.heads b l) e in
          let q : b ≡ a = one b a c h.1 here in
          let R : ℕ → Type 0 = λ y. m y p ≡ true in
          both_ways _ (h.2 p cp pn) (subst R (sym q) mp)

      next : (b x : ℕ) → x < n → (m b x ≡ true) × (not (eqb x c) ≡ true) → IsLast (without c m b) x (nx' x)
      next b x l (t, o) = elim (cases_eq x p) [
        | inl e ↦ at_p b x t e
        | inr ne ↦ (let S : Option ℕ → Type 0 = λ y. IsLast (without c m b) x y in
            subst S (sym (other x ne)) (last_other (m b) c x (nx x) (lists.nexts b x l t) (not_c b x l t o ne)))
      ]
        where
          at_p : (b x : ℕ) → m b x ≡ true → x ≡ p → IsLast (without c m b) x (nx' x)
          at_p b x t e =
              let R : ℕ → Type 0 = λ y. m b y ≡ true in
              let q : b ≡ a = one b a p (subst R e t) mp in
              let S : ℕ → ℕ → Option ℕ → Type 0 = λ k y z. IsLast (without c m k) y z in
              let w : IsLast (without c m a) p (nx c) = last_skip (m a) c p (nx c) (cp, here, gap) (lists.nexts a c below here) in
              let T : ℕ → Type 0 = λ y. IsLast (without c m b) y (nx' y) in
              let U : ℕ → Type 0 = λ k. IsLast (without c m k) p (nx' p) in
              let V : Option ℕ → Type 0 = λ z. IsLast (without c m a) p z in
              subst T (sym e) (subst U (sym q) (subst V (sym at) w))

          not_c : (b x : ℕ) → x < n → m b x ≡ true → not (eqb x c) ≡ true → x ≢ p → nx x ≢ Some c
          not_c b x l t o ne e =
              let h = P (nx x) b x (lists.nexts b x l t) e in
              let q : b ≡ a = one b a c h.1 here in
              let R : ℕ → Type 0 = λ y. m y x ≡ true in
              let tx : m a x ≡ true = subst R q t in
              elim (cases_lt x p) [
                | inl lt ↦ both_ways _ (gap x h.0 lt) tx
                | inr ge ↦ (let W : ℕ → Type 0 = λ y. m y p ≡ true in both_ways _ (h.2 p cp (omega arith)) (subst W (sym q) mp))
              ]

  pub cut_first : ((x : ℕ) → c < x → x < n → m a x ≡ false)
      → (f' : ℕ → Option ℕ) → f' a ≡ nx c → ((b : ℕ) → b ≢ a → f' b ≡ f b)
      → Linked n keys (without c m) f' nx
  cut_first gap f' at other = record {
    heads = λ b l. head b l (cases_eq b a);
    nexts = λ b x l h. (let (t, o) = and_parts (m b x) _ h in last_other (m b) c x (nx x) (lists.nexts b x l t) (not_c b x l t));
  }
    where
      head : (b : ℕ) → b < keys → (b ≡ a) ⊎ (b ≢ a) → IsLast (without c m b) n (f' b)
      head b l (inl q) =
          let w : IsLast (without c m a) n (nx c) = last_skip (m a) c n (nx c) (below, here, gap) (lists.nexts a c below here) in
          let V : Option ℕ → Type 0 = λ z. IsLast (without c m a) n z in
          let U : ℕ → Type 0 = λ k. IsLast (without c m k) n (f' k) in
          subst U (sym q) (subst V (sym at) w)
      head b l (inr ne) =
          let V : Option ℕ → Type 0 = λ z. IsLast (without c m b) n z in
          subst V (sym (other b ne)) (last_other (m b) c n (f b) (lists.heads b l) (λ e.
          let Q : Option ℕ → Type 0 = λ o. IsLast (m b) n o in
          let h = subst Q e (lists.heads b l) in ne (one b a c h.1 here)))

      not_c : (b x : ℕ) → x < n → m b x ≡ true → nx x ≢ Some c
      not_c b x l t e =
          let Q : Option ℕ → Type 0 = λ o. IsLast (m b) x o in
          let h = subst Q e (lists.nexts b x l t) in
          let q : b ≡ a = one b a c h.1 here in
          let R : ℕ → Type 0 = λ y. m y x ≡ true in
          both_ways _ (gap x h.0 l) (subst R q t)

module _ (p : ℕ → Bool) (c : ℕ) where
  -- p and p without c agree away from c
  back_true : (x : ℕ) → (p x && not (eqb x c)) ≡ true → p x ≡ true
  back_true x h = (and_parts (p x) _ h).0

  back_false : (x : ℕ) → x ≢ c → (p x && not (eqb x c)) ≡ false → p x ≡ false
  back_false x n h = elim (cases_Bool (p x)) [ inl t ↦ absurd (both_ways _ h (without_true p c x t n)) | inr f ↦ f ]

  -- up to c nothing changes
  pub last_up_to : (u : ℕ) (r : Option ℕ) → u ≤ c → IsLast (λ x. p x && not (eqb x c)) u r → IsLast p u r
  last_up_to u None l h = λ x k. back_false x (omega arith) (h x k)
  last_up_to u (Some r) l (k, t, h) = (k, back_true r t, λ x i j. back_false x (omega arith) (h x i j))

  -- nor where the last lies above c
  pub last_above : (u r : ℕ) → c < r → IsLast (λ x. p x && not (eqb x c)) u (Some r) → IsLast p u (Some r)
  last_above u r l (k, t, h) = (k, back_true r t, λ x i j. back_false x (omega arith) (h x i j))

  -- c is the last where nothing lies above it
  pub last_is : (u : ℕ) → c < u → p c ≡ true → ((x : ℕ) → c < x → x < u → (p x && not (eqb x c)) ≡ false) → IsLast p u (Some c)
  last_is u l t h = (l, t, λ x i j. back_false x (omega arith) (h x i j))

  -- the last below u is the last below c where nothing lies from c on
  pub last_down : (u : ℕ) (r : Option ℕ) → c < u → ((x : ℕ) → c < x → x < u → (p x && not (eqb x c)) ≡ false)
      → IsLast (λ x. p x && not (eqb x c)) u r → IsLast p c r
  last_down u None l h k = λ x i. back_false x (omega arith) (k x (omega arith))
  last_down u (Some r) l h (i, t, k) = elim (cases_lt r c) [
    | inl lt ↦ (lt, back_true r t, λ x v w. back_false x (omega arith) (k x v (omega arith)))
    | inr ge ↦ elim (cases_eq r c) [
      | inl q ↦ absurd (both_ways _ (without_at' q) t)
      | inr n ↦ absurd (both_ways _ (h r (omega arith) i) t)
    ]
  ]
    where
      without_at' : r ≡ c → (p r && not (eqb r c)) ≡ false
      without_at' q = let P : ℕ → Type 0 = λ y. (p y && not (eqb y c)) ≡ false in subst P (sym q) (without_at p c)

module _ (n keys : ℕ) (m : ℕ → ℕ → Bool) (f nx : ℕ → Option ℕ) (c : ℕ) (lists : Linked n keys (without c m) f nx) (one : OneKey m)
    (a : ℕ) (below : c < n) (here : m a c ≡ true) where
  -- a list that c is not in is as before
  other_last : (b u : ℕ) (r : Option ℕ) → b ≢ a → IsLast (without c m b) u r → IsLast (m b) u r
  other_last b u None ne h = λ x k. back b x ne (h x k)
    where
      back : (b x : ℕ) → b ≢ a → (m b x && not (eqb x c)) ≡ false → m b x ≡ false
      back b x ne h = elim (cases_eq x c) [
        | inl q ↦ elim (cases_Bool (m b x)) [
          | inl t ↦ (let P : ℕ → Type 0 = λ y. m b y ≡ true in absurd (ne (one b a c (subst P q t) here)))
          | inr k ↦ k
        ]
        | inr o ↦ back_false (m b) c x o h
      ]
  other_last b u (Some r) ne (k, t, h) = (k, (and_parts (m b r) _ t).0, λ x i j. back b x ne (h x i j))
    where
      back : (b x : ℕ) → b ≢ a → (m b x && not (eqb x c)) ≡ false → m b x ≡ false
      back b x ne h = elim (cases_eq x c) [
        | inl q ↦ elim (cases_Bool (m b x)) [
          | inl t ↦ (let P : ℕ → Type 0 = λ y. m b y ≡ true in absurd (ne (one b a c (subst P q t) here)))
          | inr k ↦ k
        ]
        | inr o ↦ back_false (m b) c x o h
      ]

  -- a last that lies below a member is above c where the member is
  through : (u q : ℕ) (r : Option ℕ) → c < q → q < u → (m a q && not (eqb q c)) ≡ true → IsLast (without c m a) u r → IsLast (m a) u r
  through u q None cq qu t h = absurd (both_ways _ (h q qu) t)
  through u q (Some r) cq qu t h = last_above (m a) c u r (elim (cases_lt r q) [
    | inl lt ↦ absurd (both_ways _ (h.2 q lt qu) t)
    | inr ge ↦ omega arith
  ]) h

  pub put_below : (p : ℕ) → c < p → p < n → (m a p && not (eqb p c)) ≡ true → ((x : ℕ) → c < x → x < p → (m a x && not (eqb x c)) ≡ false)
      → (nx' : ℕ → Option ℕ) → nx' c ≡ nx p → nx' p ≡ Some c → ((x : ℕ) → x ≢ p → x ≢ c → nx' x ≡ nx x)
      → Linked n keys m f nx'
  put_below p cp pn tp gap nx' at_c at_p other = record {
    heads = λ b l. elim (cases_eq b a) [
      | inl q ↦ (let P : ℕ → Type 0 = λ y. IsLast (m y) n (f y) in
          let Q : ℕ → Type 0 = λ y. IsLast (without c m y) n (f y) in
          subst P (sym q) (through n p (f a) cp pn tp (subst Q q (lists.heads b l))))
      | inr ne ↦ other_last b n (f b) ne (lists.heads b l)
    ];
    nexts = λ b x l t. elim (cases_eq b a) [
      | inl q ↦ (let P : ℕ → Type 0 = λ y. IsLast (m y) x (nx' x) in
          let R : ℕ → Type 0 = λ y. m y x ≡ true in
          subst P (sym q) (own x l (subst R q t)))
      | inr ne ↦ (let R : ℕ → Type 0 = λ y. m b y ≡ true in
          let nc : x ≢ c = λ q. ne (one b a c (subst R q t) here) in
          let np : x ≢ p = λ q. ne (one b a p (subst R q t) (and_parts (m a p) _ tp).0) in
          let S : Option ℕ → Type 0 = λ o. IsLast (m b) x o in
          subst S (sym (other x np nc)) (other_last b x (nx x) ne (lists.nexts b x l (without_true (m b) c x t nc))))
    ];
  }
    where
      own : (x : ℕ) → x < n → m a x ≡ true → IsLast (m a) x (nx' x)
      own x l t = elim (cases_eq x c) [
        | inl q ↦ (let P : ℕ → Type 0 = λ y. IsLast (m a) y (nx' y) in
            let S : Option ℕ → Type 0 = λ o. IsLast (m a) c o in
            subst P (sym q) (subst S (sym at_c) (last_down (m a) c p (nx p) cp gap (lists.nexts a p pn tp))))
        | inr nc ↦ elim (cases_eq x p) [
          | inl q ↦ (let P : ℕ → Type 0 = λ y. IsLast (m a) y (nx' y) in
              let S : Option ℕ → Type 0 = λ o. IsLast (m a) p o in
              subst P (sym q) (subst S (sym at_p) (last_is (m a) c p cp here gap)))
          | inr np ↦ (let S : Option ℕ → Type 0 = λ o. IsLast (m a) x o in
              let k = lists.nexts a x l (without_true (m a) c x t nc) in
              subst S (sym (other x np nc)) (elim (cases_lt x c) [
                | inl lt ↦ last_up_to (m a) c x (nx x) (omega arith) k
                | inr ge ↦ elim (cases_lt x p) [
                  | inl lp ↦ absurd (both_ways _ (gap x (omega arith) lp) (without_true (m a) c x t nc))
                  | inr gp ↦ through x p (nx x) cp (omega arith) tp k
                ]
              ]))
        ]
      ]

  pub put_first : ((x : ℕ) → c < x → x < n → (m a x && not (eqb x c)) ≡ false)
      → (f' nx' : ℕ → Option ℕ) → f' a ≡ Some c → ((b : ℕ) → b ≢ a → f' b ≡ f b) → nx' c ≡ f a → ((x : ℕ) → x ≢ c → nx' x ≡ nx x) → a < keys
      → Linked n keys m f' nx'
  put_first gap f' nx' at_a others at_c other ak = record {
    heads = λ b l. elim (cases_eq b a) [
      | inl q ↦ (let P : ℕ → Type 0 = λ y. IsLast (m y) n (f' y) in
          let S : Option ℕ → Type 0 = λ o. IsLast (m a) n o in
          subst P (sym q) (subst S (sym at_a) (last_is (m a) c n below here gap)))
      | inr ne ↦ (let S : Option ℕ → Type 0 = λ o. IsLast (m b) n o in
          subst S (sym (others b ne)) (other_last b n (f b) ne (lists.heads b l)))
    ];
    nexts = λ b x l t. elim (cases_eq x c) [
      | inl q ↦ (let R : ℕ → Type 0 = λ y. m b y ≡ true in
          let e : b ≡ a = one b a c (subst R q t) here in
          let P : ℕ → Type 0 = λ y. IsLast (m b) y (nx' y) in
          let U : ℕ → Type 0 = λ y. IsLast (m y) c (nx' c) in
          let S : Option ℕ → Type 0 = λ o. IsLast (m a) c o in
          subst P (sym q) (subst U (sym e) (subst S (sym at_c) (last_down (m a) c n (f a) below gap (lists.heads a ak)))))
      | inr nc ↦ (let S : Option ℕ → Type 0 = λ o. IsLast (m b) x o in
          let k = lists.nexts b x l (without_true (m b) c x t nc) in
          subst S (sym (other x nc)) (elim (cases_eq b a) [
            | inl q ↦ (let U : ℕ → Type 0 = λ y. IsLast (m y) x (nx x) in
                let V : ℕ → Type 0 = λ y. IsLast (without c m y) x (nx x) in
                let R : ℕ → Type 0 = λ y. m y x ≡ true in
                subst U (sym q) (elim (cases_lt x c) [
                  | inl lt ↦ last_up_to (m a) c x (nx x) (omega arith) (subst V q k)
                  | inr ge ↦ absurd (both_ways _ (gap x (omega arith) l) (without_true (m a) c x (subst R q t) nc))
                ]))
            | inr ne ↦ other_last b x (nx x) ne k
          ]))
    ];
  }

-- a last below n is one below n + 1 where n does not pass
last_up : (p : ℕ → Bool) (n : ℕ) (r : Option ℕ) → p n ≡ false → IsLast p n r → IsLast p (n + 1) r
last_up p n None f h = λ x l. elim (cases_eq x n) [
  | inl q ↦ (let P : ℕ → Type 0 = λ y. p y ≡ false in subst P (sym q) f)
  | inr m ↦ h x (omega arith)
]
last_up p n (Some r) f (l, t, h) = (
  omega arith,
  t,
  λ x i j. elim (cases_eq x n) [
    | inl q ↦ (let P : ℕ → Type 0 = λ y. p y ≡ false in subst P (sym q) f)
    | inr m ↦ h x i (omega arith)
  ],
)

module _ (n keys : ℕ) (m : ℕ → ℕ → Bool) (f nx : ℕ → Option ℕ) (lists : Linked n keys m f nx) where
  -- lists over one number more that is in none of them
  pub linked_skip : ((b : ℕ) → m b n ≡ false) → Linked (n + 1) keys m f nx
  linked_skip none = record {
    heads = λ b l. last_up (m b) n (f b) (none b) (lists.heads b l);
    nexts = λ b c l t. elim (cases_eq c n) [
      | inl q ↦ (let P : ℕ → Type 0 = λ y. m b y ≡ true in absurd (both_ways _ (none b) (subst P q t)))
      | inr o ↦ lists.nexts b c (omega arith) t
    ];
  }

  -- lists over one number more that is in the list of a
  pub linked_more : (f' nx' : ℕ → Option ℕ) (a : ℕ) → a < keys → m a n ≡ true → ((b : ℕ) → b ≢ a → m b n ≡ false)
      → f' a ≡ Some n → ((b : ℕ) → b ≢ a → f' b ≡ f b) → nx' n ≡ f a → ((x : ℕ) → x ≢ n → nx' x ≡ nx x) → Linked (n + 1) keys m f' nx'
  linked_more f' nx' a ak here none at_a others at_n other = record {
    heads = λ b l. elim (cases_eq b a) [
      | inl q ↦ (let P : ℕ → Type 0 = λ y. IsLast (m y) (n + 1) (f' y) in
          let S : Option ℕ → Type 0 = λ o. IsLast (m a) (n + 1) o in
          let last : IsLast (m a) (n + 1) (Some n) = (omega arith, here, λ x i j. absurd (omega arith)) in
          subst P (sym q) (subst S (sym at_a) last))
      | inr o ↦ (let S : Option ℕ → Type 0 = λ k. IsLast (m b) (n + 1) k in
          subst S (sym (others b o)) (last_up (m b) n (f b) (none b o) (lists.heads b l)))
    ];
    nexts = λ b c l t. elim (cases_eq c n) [
      | inl q ↦ (let P : ℕ → Type 0 = λ y. m b y ≡ true in
          let e : b ≡ a = elim (cases_eq b a) [ inl o ↦ o | inr o ↦ absurd (both_ways _ (none b o) (subst P q t)) ] in
          let Q : ℕ → Type 0 = λ y. IsLast (m b) y (nx' y) in
          let R : ℕ → Type 0 = λ y. IsLast (m y) n (nx' n) in
          let S : Option ℕ → Type 0 = λ o. IsLast (m a) n o in
          subst Q (sym q) (subst R (sym e) (subst S (sym at_n) (lists.heads a ak))))
      | inr o ↦ (let S : Option ℕ → Type 0 = λ k. IsLast (m b) c k in
          subst S (sym (other c o)) (lists.nexts b c (omega arith) t))
    ];
  }

last_below : (p p' : ℕ → Bool) (u : ℕ) (r : Option ℕ) → ((x : ℕ) → x < u → p' x ≡ p x) → IsLast p u r → IsLast p' u r
last_below p p' u None e h = λ x l. e x l ∙ h x l
last_below p p' u (Some r) e (l, t, h) = (l, e r l ∙ t, λ x i j. e x j ∙ h x i j)

-- lists over numbers below n read nothing from n on
pub linked_below : (n keys : ℕ) (m m' : ℕ → ℕ → Bool) (f nx : ℕ → Option ℕ) → ((a x : ℕ) → x < n → m' a x ≡ m a x)
    → Linked n keys m f nx → Linked n keys m' f nx
linked_below n keys m m' f nx e l = record {
  heads = λ a h. last_below (m a) (m' a) n (f a) (e a) (l.heads a h);
  nexts = λ a c h t. last_below (m a) (m' a) c (nx c) (λ x k. e a x (omega arith)) (l.nexts a c h (sym (e a c h) ∙ t));
}
