-- A module states at most one shader, has at most one first refusal, and not both.
use Rattle.std.proofs.Common.{ℕ, ◌≡◌, ◌∙◌, ◌≤◌, inl, inr, refl, sym, ap, subst, arith, List, [], ◌∷◌, Option}
use Rattle.std.proofs.lemmas.Bool.{cases_lt}
use Rattle.dx_base.proofs.FirstLaws.{first_unique}
use Rattle.dx_base.specs.First.{IsFirst, IsSound}
use Rattle.dx_base.specs.declared.fault.Fault.{Fault}
use Rattle.bitstream_spelling.specs.declared.item.Item.{Item}
use Rattle.llvm_items.specs.Sites.{Site, sites, code_of, fields_of}
use Rattle.llvm_layout.proofs.Unique.{only_reading}
use Rattle.llvm_types.specs.declared.kind.LlvmType.{LlvmType}
use Rattle.llvm_values.specs.declared.global.Global.{Global}
use Rattle.llvm_types.specs.Rules.{Broken as BreaksTypes}
use Rattle.llvm_bodies.specs.Lists.{Each, none, more, Place}
use Rattle.llvm_bodies.specs.Bodies.{IsLine, IsBody, AreBodies, lines_in, known, around_of, ended}
use Rattle.llvm_bodies.specs.Reading.{fault_of}
use Rattle.llvm_bodies.specs.declared.facts.ModuleFacts.{ModuleFacts}
use Rattle.llvm_bodies.specs.declared.line.Line.{Line}
use Rattle.llvm_bodies.specs.declared.line.Body.{Body}
use Rattle.llvm_layout.specs.declared.letter.Parts.{Parts}
use Rattle.llvm_records.specs.Reading.{AreRecords, facts_in, Broken as BreaksRecords}
use Rattle.llvm_records.specs.declared.read.Records.{Records}
use Rattle.llvm_nodes.specs.Metadata.{IsMeta}
use Rattle.llvm_nodes.specs.declared.item.Meta.{Meta}
use Rattle.llvm_nodes.specs.declared.item.MetaItem.{MetaItem}
use Rattle.llvm_nodes.specs.declared.item.Named.{Named}
use Rattle.llvm_facts.specs.Rules.{IsFirstByNumber, entry_of}
use Rattle.llvm_facts.specs.Facts.{AreFacts}
use Rattle.llvm_facts.specs.declared.facts.Facts.{Facts}
use Rattle.llvm_facts.specs.declared.facts.Row.{Row}
use Rattle.llvm_shader.specs.Shader.{IsShader, AreSound, IsFirstRefusal, of_types, of_records, of_metadata, of_facts, BreaksMetadata, BreaksFacts, module_with}
use Rattle.llvm_shader.specs.declared.read.Shader.{Shader}

-- a relation that gives one thing gives one list
same_list : {B : Type 0} (b c : B) (ys zs : List B) → b ≡ c → ys ≡ zs → b ∷ ys ≡ c ∷ zs
same_list b c ys zs e f = cc

each_unique : {A B : Type 0} (R : A → B → Type 0) → ((a : A) (b c : B) → R a b → R a c → b ≡ c) → (xs : List A) (ys zs : List B) → Each R xs ys → Each R xs zs → ys ≡ zs
each_unique R one [] [] [] none none = refl
each_unique R one (a ∷ xs) (b ∷ ys) (c ∷ zs) (more r rs) (more s ss) = same_list b c ys zs (one a b c r s) (each_unique R one xs ys zs rs ss)
each_unique R one [] [] (c ∷ zs) x y = elim y [ ]
each_unique R one [] (b ∷ ys) zs x y = elim x [ ]
each_unique R one (a ∷ xs) [] zs x y = elim x [ ]
each_unique R one (a ∷ xs) (b ∷ ys) [] x y = elim y [ ]

-- ---- the bodies

abbrev parts_of : Line → Parts
parts_of line = record { numbers = line.numbers; types = line.types; plain = line.plain }

same_line : (a b e f : ℕ) (v w : Option ℕ) (g h : ℕ) (n o : List ℕ) (t u : List (ℕ × ℕ)) (p q : List ℕ) → a ≡ b → e ≡ f → v ≡ w → g ≡ h → n ≡ o → t ≡ u → p ≡ q
    → ◌≡◌ {A = Line} (record { bit = a; block = e; value = v; code = g; numbers = n; types = t; plain = p }) (record { bit = b; block = f; value = w; code = h; numbers = o; types = u; plain = q })
same_line a b e f v w g h n o t u p q i j k l x y z = cc

same_body : (a b c d e f : ℕ) (g h : List Global) (l k : List Line) → a ≡ b → c ≡ d → e ≡ f → g ≡ h → l ≡ k
    → ◌≡◌ {A = Body} (record { bit = a; blocks = c; values = e; constants = g; lines = l }) (record { bit = b; blocks = d; values = f; constants = h; lines = k })
same_body a b c d e f g h l k i j m n o = cc

same_meta : (a b : List MetaItem) (c d : List ℕ) (e f : List Named) (g h : ℕ) → a ≡ b → c ≡ d → e ≡ f → g ≡ h
    → ◌≡◌ {A = Meta} (record { list = a; bits = c; named = e; end = g }) (record { list = b; bits = d; named = f; end = h })
same_meta a b c d e f g h i j k l = cc

same_records : (a b : List Global) (c d : List Body) → a ≡ b → c ≡ d → ◌≡◌ {A = Records} (record { globals = a; bodies = c }) (record { globals = b; bodies = d })
same_records a b c d e f = cc

same_facts : (a b : ℕ) (c d : List ℕ) (e f : List Row) → a ≡ b → c ≡ d → e ≡ f → ◌≡◌ {A = Facts} (record { body = a; local = c; rows = e }) (record { body = b; local = d; rows = f })
same_facts a b c d e f g h i = cc

same_shader : (a b : List LlvmType) (c d : Records) (e f : Facts) → a ≡ b → c ≡ d → e ≡ f
    → ◌≡◌ {A = Shader} (record { types = record { list = a }; records = c; facts = e }) (record { types = record { list = b }; records = d; facts = f })
same_shader a b c d e f g h i = cc

module _ (m : ModuleFacts) (fs : List ℕ) where
  line_unique : (place : Place Site) (a b : Line) → IsLine m fs place a → IsLine m fs place b → a ≡ b
  line_unique place a b x y =
      let same = only_reading (around_of m fs (known m fs place.before)) (fields_of fs place.item.item) (code_of place.item.item) (parts_of a) (parts_of b) x.parts y.parts in
      same_line a.bit b.bit a.block b.block a.value b.value a.code b.code a.numbers b.numbers a.types b.types a.plain b.plain (x.bit ∙ sym y.bit) (x.block ∙ sym y.block) (x.value ∙ sym y.value) (x.code ∙ sym y.code)
      (ap (λ (p : Parts). p.numbers) same) (ap (λ (p : Parts). p.types) same) (ap (λ (p : Parts). p.plain) same)

  body_unique : (before : List Site) (a b : Body) → IsBody m fs before a → IsBody m fs before b → a ≡ b
  body_unique before a b x y =
      same_body a.bit b.bit a.blocks b.blocks a.values b.values a.constants b.constants a.lines b.lines (x.bit ∙ sym y.bit) (x.blocks ∙ sym y.blocks) (x.values ∙ sym y.values) (x.constants ∙ sym y.constants)
      (each_unique (IsLine m fs) line_unique (lines_in before) a.lines b.lines x.lines y.lines)

  bodies_unique : (ss : List Site) (xs ys : List Body) → AreBodies m fs ss xs → AreBodies m fs ss ys → xs ≡ ys
  bodies_unique ss xs ys x y = each_unique (IsBody m fs) body_unique (ended ss) xs ys x y

-- ---- there is one first
by_number_unique : (Broken : ℕ → ℕ → Type 0) (r b s c : ℕ) → IsFirstByNumber Broken r b → IsFirstByNumber Broken s c → (r ≡ s) × (b ≡ c)
by_number_unique Broken r b s c x y = (number, bits number) where
  number : r ≡ s
  number = elim (cases_lt r s) [
    | inl h ↦ absurd (y.none r b h x.broken)
    | inr h ↦ elim (cases_lt s r) [ inl g ↦ absurd (x.none s c g y.broken) | inr g ↦ omega (arith, h, g) ]
  ]

  bits : r ≡ s → b ≡ c
  bits e =
      let one : b ≤ c = x.least c (subst (λ n. Broken n c) (sym e) y.broken) in
      let two : c ≤ b = y.least b (subst (λ n. Broken n b) e x.broken) in
      omega (arith, one, two)

-- ---- the shader
module _ (is : List Item) (fs : List ℕ) where
  pub meta_unique : (m n : Meta) → IsMeta m is fs → IsMeta n is fs → m ≡ n
  meta_unique m n x y = same_meta m.list n.list m.bits n.bits m.named n.named m.end n.end (x.list ∙ sym y.list) (x.bits ∙ sym y.bits) (x.named ∙ sym y.named) (x.end ∙ sym y.end)

  records_unique : (a b : Records) → AreRecords is fs a → AreRecords is fs b → a ≡ b
  records_unique a b x y = same_records a.globals b.globals a.bodies b.bodies (x.globals ∙ sym y.globals) (bodies_unique (facts_in is fs) fs (sites is) a.bodies b.bodies x.bodies y.bodies)

  facts_unique : (m n : Meta) (a b : Facts) → m ≡ n → AreFacts a (module_with is fs m) (entry_of (module_with is fs m) m) → AreFacts b (module_with is fs n) (entry_of (module_with is fs n) n) → a ≡ b
  facts_unique m n a b e x y =
      let z : AreFacts b (module_with is fs m) (entry_of (module_with is fs m) m) = subst (λ (k : Meta). AreFacts b (module_with is fs k) (entry_of (module_with is fs k) k)) (sym e) y in
      same_facts a.body b.body a.local b.local a.rows b.rows (x.body ∙ sym z.body) (x.local ∙ sym z.local) (x.rows ∙ sym z.rows)

  shader_in : (a b : Shader) → IsShader is fs a → IsShader is fs b → a ≡ b
  shader_in a b x y =
      same_shader a.types.list b.types.list a.records b.records a.facts b.facts (x.types ∙ sym y.types) (records_unique a.records b.records x.records y.records)
      (facts_unique x.meta y.meta a.facts b.facts (meta_unique x.meta y.meta x.is_meta y.is_meta) x.facts y.facts)

  -- ---- the refusals
  not_types : (r b : ℕ) → IsSound (BreaksTypes is fs) → IsFirst (BreaksTypes is fs) r b → ⊥
  not_types r b s f = s.none r b f.broken

  not_records : (r b : ℕ) → IsSound (BreaksRecords is fs) → IsFirst (BreaksRecords is fs) r b → ⊥
  not_records r b s f = s.none r b f.broken

  not_metadata : (r b : ℕ) → IsSound (BreaksMetadata is fs) → IsFirst (BreaksMetadata is fs) r b → ⊥
  not_metadata r b s f = s.none r b f.broken

  facts_first : (m n : Meta) (r b s c : ℕ) → IsMeta m is fs → IsMeta n is fs → IsFirstByNumber (BreaksFacts is fs m) r b → IsFirstByNumber (BreaksFacts is fs n) s c → (r ≡ s) × (b ≡ c)
  facts_first m n r b s c x y f g =
      by_number_unique (BreaksFacts is fs m) r b s c f (subst (λ (k : Meta). IsFirstByNumber (BreaksFacts is fs k) s c) (sym (meta_unique m n x y)) g)

  refusal_in : (one other : Fault) → IsFirstRefusal is fs one → IsFirstRefusal is fs other → one ≡ other
  refusal_in one other (of_types r b f) (of_types s c g) = let u = first_unique (BreaksTypes is fs) r b s c f g in cc (u.0, u.1)
  refusal_in one other (of_types r b f) (of_records s c y g) = absurd (not_types r b y f)
  refusal_in one other (of_types r b f) (of_metadata s c y z g) = absurd (not_types r b y f)
  refusal_in one other (of_types r b f) (of_facts n s c y z w k g) = absurd (not_types r b y f)
  refusal_in one other (of_records r b x f) (of_types s c g) = absurd (not_types s c x g)
  refusal_in one other (of_records r b x f) (of_records s c y g) = let u = first_unique (BreaksRecords is fs) r b s c f g in ap (λ n. fault_of n b) u.0 ∙ ap (fault_of s) u.1
  refusal_in one other (of_records r b x f) (of_metadata s c y z g) = absurd (not_records r b z f)
  refusal_in one other (of_records r b x f) (of_facts n s c y z w k g) = absurd (not_records r b z f)
  refusal_in one other (of_metadata r b x w f) (of_types s c g) = absurd (not_types s c x g)
  refusal_in one other (of_metadata r b x w f) (of_records s c y g) = absurd (not_records s c w g)
  refusal_in one other (of_metadata r b x w f) (of_metadata s c y z g) = let u = first_unique (BreaksMetadata is fs) r b s c f g in cc (u.0, u.1)
  refusal_in one other (of_metadata r b x v f) (of_facts n s c y z w k g) = absurd (not_metadata r b w f)
  refusal_in one other (of_facts m r b x w v j f) (of_types s c g) = absurd (not_types s c x g)
  refusal_in one other (of_facts m r b x w v j f) (of_records s c y g) = absurd (not_records s c w g)
  refusal_in one other (of_facts m r b x w v j f) (of_metadata s c y z g) = absurd (not_metadata s c v g)
  refusal_in one other (of_facts m r b x u v j f) (of_facts n s c y z w k g) = let e = facts_first m n r b s c j k f g in cc (e.0, e.1)

  sound_in : (fault : Fault) → AreSound is fs → IsFirstRefusal is fs fault → ⊥
  sound_in fault a (of_types r b f) = not_types r b a.types f
  sound_in fault a (of_records r b x f) = not_records r b a.records f
  sound_in fault a (of_metadata r b x y f) = not_metadata r b a.metadata f
  sound_in fault a (of_facts m r b x y z j f) = (a.facts m j).none r b f.broken

pub shader_unique : (is : List Item) (fs : List ℕ) (one other : Shader) → IsShader is fs one → IsShader is fs other → one ≡ other
shader_unique is fs one other x y = shader_in is fs one other x y

pub refusal_unique : (is : List Item) (fs : List ℕ) (one other : Fault) → IsFirstRefusal is fs one → IsFirstRefusal is fs other → one ≡ other
refusal_unique is fs one other x y = refusal_in is fs one other x y

pub sound_no_refusal : (is : List Item) (fs : List ℕ) (fault : Fault) → AreSound is fs → IsFirstRefusal is fs fault → ⊥
sound_no_refusal is fs fault a x = sound_in is fs fault a x
