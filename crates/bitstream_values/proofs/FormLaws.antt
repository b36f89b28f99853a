-- Operands of an abbreviation, one by one.
use Rattle.std.proofs.Common.{refl, sym, subst, ◌≡◌, [], ◌∷◌, ◌++◌, append_assoc, append-nil}
use Rattle.bitstream_spelling.specs.Layout.{Abbreviation}
use Rattle.bitstream_spelling.specs.Rules.{IsScalar, IsPlainOperand, AreSound, IsSound}
use Rattle.bitstream_spelling.specs.declared.operand.Operand.{Operand}
use Rattle.bitstream_spelling.specs.declared.operand.Operand.TheVariants as op
use Rattle.bitstream_values.specs.Forms.{IsElement, IsNone, Ends, IsStep, IsForm}
use Rattle.bitstream_values.specs.declared.form.Form.{Form}
use Rattle.bitstream_values.specs.declared.form.Form.TheVariants.{Empty, Plain, Array, Closed, Faulty}

pub first_plain : (o : Operand) → IsPlainOperand o → IsStep Empty o Plain
first_plain o p = record { follows = λ ops h. h.1; followed = λ ops h. (p, h) }

pub first_faulty : (o : Operand) → (IsPlainOperand o → ⊥) → IsStep Empty o Faulty
first_faulty o p = record { follows = λ ops h. p h.0; followed = λ ops h. absurd h }

pub element_closes : (o : Operand) → IsScalar o → IsStep Array o Closed
element_closes o s = record { follows = follows; followed = followed } where
  follows : (ops : Abbreviation) → IsElement (o ∷ ops) → IsNone ops
  follows [] h = tt
  follows (x ∷ xs) h = absurd h

  followed : (ops : Abbreviation) → IsNone ops → IsElement (o ∷ ops)
  followed [] h = s
  followed (x ∷ xs) h = absurd h

pub element_faulty : (o : Operand) → (IsScalar o → ⊥) → IsStep Array o Faulty
element_faulty o s = record { follows = follows; followed = λ ops h. absurd h } where
  follows : (ops : Abbreviation) → IsElement (o ∷ ops) → ⊥
  follows [] h = s h
  follows (x ∷ xs) h = absurd h

pub array_opens : IsStep Plain op.Array Array
array_opens = record { follows = follows; followed = followed } where
  follows : (ops : Abbreviation) → AreSound (op.Array ∷ ops) → IsElement ops
  follows [] h = absurd h.0
  follows (x ∷ []) h = h
  follows (x ∷ y ∷ ys) h = absurd h.0

  followed : (ops : Abbreviation) → IsElement ops → AreSound (op.Array ∷ ops)
  followed [] h = absurd h
  followed (x ∷ []) h = h
  followed (x ∷ y ∷ ys) h = absurd h

pub blob_closes : IsStep Plain op.Blob Closed
blob_closes = record { follows = follows; followed = followed } where
  follows : (ops : Abbreviation) → AreSound (op.Blob ∷ ops) → IsNone ops
  follows [] h = tt
  follows (x ∷ xs) h = absurd h.0

  followed : (ops : Abbreviation) → IsNone ops → AreSound (op.Blob ∷ ops)
  followed [] h = tt
  followed (x ∷ xs) h = absurd h

-- an operand that is no array and no blob
next_pair : (o : Operand) → (o ≡ op.Array → ⊥) → (o ≡ op.Blob → ⊥) → (ops : Abbreviation) → (AreSound (o ∷ ops) → IsPlainOperand o × AreSound ops) × (IsPlainOperand o × AreSound ops → AreSound (o ∷ ops))
next_pair (op.Literal n) a b ops = (λ h. h, λ h. h)
next_pair (op.Fixed n) a b ops = (λ h. h, λ h. h)
next_pair (op.Vbr n) a b ops = (λ h. h, λ h. h)
next_pair op.Char6 a b ops = (λ h. h, λ h. h)
next_pair op.Faulty a b ops = (λ h. h, λ h. h)
next_pair op.Array a b ops = absurd (a refl)
next_pair op.Blob a b ops = absurd (b refl)

pub next_plain : (o : Operand) → (o ≡ op.Array → ⊥) → (o ≡ op.Blob → ⊥) → IsPlainOperand o → IsStep Plain o Plain
next_plain o a b p = record { follows = λ ops h. ((next_pair o a b ops).0 h).1; followed = λ ops h. (next_pair o a b ops).1 (p, h) }

pub next_faulty : (o : Operand) → (o ≡ op.Array → ⊥) → (o ≡ op.Blob → ⊥) → (IsPlainOperand o → ⊥) → IsStep Plain o Faulty
next_faulty o a b p = record { follows = λ ops h. p ((next_pair o a b ops).0 h).0; followed = λ ops h. absurd h }

pub closed_faulty : (o : Operand) → IsStep Closed o Faulty
closed_faulty o = record { follows = λ ops h. absurd h; followed = λ ops h. absurd h }

pub faulty_faulty : (o : Operand) → IsStep Faulty o Faulty
faulty_faulty o = record { follows = λ ops h. absurd h; followed = λ ops h. absurd h }

pub step_of : (form new_form : Form) (o p : Operand) → o ≡ p → IsStep form p new_form → IsStep form o new_form
step_of form new_form o p e h = subst (λ (x : Operand). IsStep form x new_form) (sym e) h

-- the operands before
pub no_operands : IsForm Empty []
no_operands = record { follows = λ ops h. h; followed = λ ops h. h }

pub one_more : (form new_form : Form) (before : Abbreviation) (o : Operand) → IsForm form before → IsStep form o new_form → IsForm new_form (before ++ o ∷ [])
one_more form new_form before o f s = record {
  follows = λ ops h. s.follows ops (f.follows (o ∷ ops) (subst IsSound (append_assoc before (o ∷ []) ops) h));
  followed = λ ops h. subst IsSound (sym (append_assoc before (o ∷ []) ops)) (f.followed (o ∷ ops) (s.followed ops h));
}

pub sound_form : (form : Form) (before : Abbreviation) → IsForm form before → (IsSound before → Ends form) × (Ends form → IsSound before)
sound_form form before f = (λ h. f.follows [] (subst IsSound (sym (append-nil before)) h), λ h. subst IsSound (append-nil before) (f.followed [] h))
