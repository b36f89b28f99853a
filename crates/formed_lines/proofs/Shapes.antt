-- Instructions whose operands are as their opcodes say.
use Rattle.std.proofs.Common.{◌≡◌, ℕ, zero, suc, ◌<◌, Bool, true, false, List, [], ◌∷◌, length, get_or, Some, refl, sym, arith}
use Rattle.spv_form.specs.declared.shape.Shape.TheVariants.{Plain}
use Rattle.spv_form.specs.Formed.{IsIdBelow, IsFormedInst}
use Rattle.spv_form.specs.Operands.{fits, is_id}
use Rattle.spv_form.specs.Shapes.{shape_of, plain, typed}
use Rattle.spirv_code.specs.Plans.{inst}
use Rattle.line_runs.proofs.Tests.{true_false}

abbrev pub AllIds : ℕ → List ℕ → Type 0
AllIds b [] = Unit {0}
AllIds b (x ∷ xs) = IsIdBelow b x × AllIds b xs

ids_at : (b : ℕ) (xs : List ℕ) (at : ℕ) → AllIds b xs → at < length xs → IsIdBelow b (get_or xs at 0)
ids_at b [] at h lt = absurd (omega (arith, lt))
ids_at b (x ∷ xs) zero h lt = h.0
ids_at b (x ∷ xs) (suc at) h lt = ids_at b xs at h.1 (omega (arith, lt))

-- all operands are ids
pub formed_ids : (b opcode : ℕ) (ops : List ℕ) (has_type has_id : Bool) (least most : ℕ) → shape_of opcode ≡ Some (Plain has_type has_id least most 0) → fits (Plain has_type has_id least most 0) ops ≡ true → length ops < 65535 → AllIds b ops → IsFormedInst b (inst opcode ops)
formed_ids b opcode ops has_type has_id least most listed fit short ids =
    record { shape = Plain has_type has_id least most 0; listed = listed; fits = fit; string = refl; ids = λ at lt is. ids_at b ops at ids lt; short = short }

-- a type, a result, and so many ids
pub one_id : (b opcode x y z : ℕ) → shape_of opcode ≡ Some (typed 1 0) → IsIdBelow b x → IsIdBelow b y → IsIdBelow b z → IsFormedInst b (inst opcode (x ∷ y ∷ z ∷ []))
one_id b opcode x y z e hx hy hz = formed_ids b opcode (x ∷ y ∷ z ∷ []) true true 1 1 e refl (omega arith) (hx, (hy, (hz, tt)))

pub two_ids : (b opcode x y z w : ℕ) → shape_of opcode ≡ Some (typed 2 0) → IsIdBelow b x → IsIdBelow b y → IsIdBelow b z → IsIdBelow b w → IsFormedInst b (inst opcode (x ∷ y ∷ z ∷ w ∷ []))
two_ids b opcode x y z w e hx hy hz hw = formed_ids b opcode (x ∷ y ∷ z ∷ w ∷ []) true true 2 2 e refl (omega arith) (hx, (hy, (hz, (hw, tt))))

pub three_ids : (b opcode x y z w u : ℕ) → shape_of opcode ≡ Some (typed 3 0) → IsIdBelow b x → IsIdBelow b y → IsIdBelow b z → IsIdBelow b w → IsIdBelow b u → IsFormedInst b (inst opcode (x ∷ y ∷ z ∷ w ∷ u ∷ []))
three_ids b opcode x y z w u e hx hy hz hw hu =
    formed_ids b opcode (x ∷ y ∷ z ∷ w ∷ u ∷ []) true true 3 3 e refl (omega arith) (hx, (hy, (hz, (hw, (hu, tt)))))

pub four_ids : (b opcode x y z w u v : ℕ) → shape_of opcode ≡ Some (typed 4 0) → IsIdBelow b x → IsIdBelow b y → IsIdBelow b z → IsIdBelow b w → IsIdBelow b u → IsIdBelow b v → IsFormedInst b (inst opcode (x ∷ y ∷ z ∷ w ∷ u ∷ v ∷ []))
four_ids b opcode x y z w u v e hx hy hz hw hu hv =
    formed_ids b opcode (x ∷ y ∷ z ∷ w ∷ u ∷ v ∷ []) true true 4 4 e refl (omega arith) (hx, (hy, (hz, (hw, (hu, (hv, tt))))))

pub six_ids : (b opcode x y z w u v s t : ℕ) → shape_of opcode ≡ Some (typed 6 0) → IsIdBelow b x → IsIdBelow b y → IsIdBelow b z → IsIdBelow b w → IsIdBelow b u → IsIdBelow b v → IsIdBelow b s → IsIdBelow b t → IsFormedInst b (inst opcode (x ∷ y ∷ z ∷ w ∷ u ∷ v ∷ s ∷ t ∷ []))
six_ids b opcode x y z w u v s t e hx hy hz hw hu hv hs ht =
    formed_ids b opcode (x ∷ y ∷ z ∷ w ∷ u ∷ v ∷ s ∷ t ∷ []) true true 6 6 e refl (omega arith) (hx, (hy, (hz, (hw, (hu, (hv, (hs, (ht, tt))))))))

-- a type, a result, an id and a number
pub id_number : (b opcode x y z n : ℕ) → shape_of opcode ≡ Some (typed 2 2) → IsIdBelow b x → IsIdBelow b y → IsIdBelow b z → IsFormedInst b (inst opcode (x ∷ y ∷ z ∷ n ∷ []))
id_number b opcode x y z n e hx hy hz =
    record { shape = typed 2 2; listed = e; fits = refl; string = refl; ids = ids; short = omega arith }
  where
    ids : (at : ℕ) → at < 4 → is_id (typed 2 2) (x ∷ y ∷ z ∷ n ∷ []) at ≡ true → IsIdBelow b (get_or (x ∷ y ∷ z ∷ n ∷ []) at 0)
    ids zero lt is = hx
    ids (suc zero) lt is = hy
    ids (suc (suc zero)) lt is = hz
    ids (suc (suc (suc zero))) lt is = absurd (true_false (sym is))
    ids (suc (suc (suc (suc k)))) lt is = absurd (omega arith)

module _ (b : ℕ) where
  pub load_formed : (x y z : ℕ) → IsIdBelow b x → IsIdBelow b y → IsIdBelow b z → IsFormedInst b (inst 61 (x ∷ y ∷ z ∷ []))
  unfolding shape_of
  load_formed x y z hx hy hz = one_id b 61 x y z refl hx hy hz

  pub store_formed : (x y : ℕ) → IsIdBelow b x → IsIdBelow b y → IsFormedInst b (inst 62 (x ∷ y ∷ []))
  unfolding shape_of
  store_formed x y hx hy = formed_ids b 62 (x ∷ y ∷ []) false false 2 2 refl refl (omega arith) (hx, (hy, tt))

  pub length_formed : (x y z n : ℕ) → IsIdBelow b x → IsIdBelow b y → IsIdBelow b z → IsFormedInst b (inst 68 (x ∷ y ∷ z ∷ n ∷ []))
  unfolding shape_of
  length_formed x y z n hx hy hz = id_number b 68 x y z n refl hx hy hz

  pub extract_formed : (x y z n : ℕ) → IsIdBelow b x → IsIdBelow b y → IsIdBelow b z → IsFormedInst b (inst 81 (x ∷ y ∷ z ∷ n ∷ []))
  unfolding shape_of
  extract_formed x y z n hx hy hz = id_number b 81 x y z n refl hx hy hz

  pub label_formed : (x : ℕ) → IsIdBelow b x → IsFormedInst b (inst 248 (x ∷ []))
  unfolding shape_of
  label_formed x hx = formed_ids b 248 (x ∷ []) false true 0 0 refl refl (omega arith) (hx, tt)

  pub branch_formed : (x : ℕ) → IsIdBelow b x → IsFormedInst b (inst 249 (x ∷ []))
  unfolding shape_of
  branch_formed x hx = formed_ids b 249 (x ∷ []) false false 1 1 refl refl (omega arith) (hx, tt)

  pub conditional_formed : (x y z : ℕ) → IsIdBelow b x → IsIdBelow b y → IsIdBelow b z → IsFormedInst b (inst 250 (x ∷ y ∷ z ∷ []))
  unfolding shape_of
  conditional_formed x y z hx hy hz = formed_ids b 250 (x ∷ y ∷ z ∷ []) false false 3 3 refl refl (omega arith) (hx, (hy, (hz, tt)))

  pub selection_formed : (x n : ℕ) → IsIdBelow b x → IsFormedInst b (inst 247 (x ∷ n ∷ []))
  unfolding shape_of
  selection_formed x n hx =
      record { shape = plain 2 2; listed = refl; fits = refl; string = refl; ids = ids; short = omega arith }
    where
      ids : (at : ℕ) → at < 2 → is_id (plain 2 2) (x ∷ n ∷ []) at ≡ true → IsIdBelow b (get_or (x ∷ n ∷ []) at 0)
      ids zero lt is = hx
      ids (suc zero) lt is = absurd (true_false (sym is))
      ids (suc (suc k)) lt is = absurd (omega arith)

  pub merge_formed : (x y n : ℕ) → IsIdBelow b x → IsIdBelow b y → IsFormedInst b (inst 246 (x ∷ y ∷ n ∷ []))
  unfolding shape_of
  merge_formed x y n hx hy =
      record { shape = plain 3 4; listed = refl; fits = refl; string = refl; ids = ids; short = omega arith }
    where
      ids : (at : ℕ) → at < 3 → is_id (plain 3 4) (x ∷ y ∷ n ∷ []) at ≡ true → IsIdBelow b (get_or (x ∷ y ∷ n ∷ []) at 0)
      ids zero lt is = hx
      ids (suc zero) lt is = hy
      ids (suc (suc zero)) lt is = absurd (true_false (sym is))
      ids (suc (suc (suc k))) lt is = absurd (omega arith)

  pub barrier_formed : (x y z : ℕ) → IsIdBelow b x → IsIdBelow b y → IsIdBelow b z → IsFormedInst b (inst 224 (x ∷ y ∷ z ∷ []))
  unfolding shape_of
  barrier_formed x y z hx hy hz = formed_ids b 224 (x ∷ y ∷ z ∷ []) false false 3 3 refl refl (omega arith) (hx, (hy, (hz, tt)))

  pub fence_formed : (x y : ℕ) → IsIdBelow b x → IsIdBelow b y → IsFormedInst b (inst 225 (x ∷ y ∷ []))
  unfolding shape_of
  fence_formed x y hx hy = formed_ids b 225 (x ∷ y ∷ []) false false 2 2 refl refl (omega arith) (hx, (hy, tt))

  -- a pointer to what stands at one, two or three indices
  pub chain_of_one : (x y z i : ℕ) → IsIdBelow b x → IsIdBelow b y → IsIdBelow b z → IsIdBelow b i → IsFormedInst b (inst 65 (x ∷ y ∷ z ∷ i ∷ []))
  unfolding shape_of
  chain_of_one x y z i hx hy hz hi =
      formed_ids b 65 (x ∷ y ∷ z ∷ i ∷ []) true true 0 65535 refl refl (omega arith) (hx, (hy, (hz, (hi, tt))))

  pub chain_of_two : (x y z i j : ℕ) → IsIdBelow b x → IsIdBelow b y → IsIdBelow b z → IsIdBelow b i → IsIdBelow b j → IsFormedInst b (inst 65 (x ∷ y ∷ z ∷ i ∷ j ∷ []))
  unfolding shape_of
  chain_of_two x y z i j hx hy hz hi hj =
      formed_ids b 65 (x ∷ y ∷ z ∷ i ∷ j ∷ []) true true 0 65535 refl refl (omega arith) (hx, (hy, (hz, (hi, (hj, tt)))))

  pub chain_of_three : (x y z i j k : ℕ) → IsIdBelow b x → IsIdBelow b y → IsIdBelow b z → IsIdBelow b i → IsIdBelow b j → IsIdBelow b k → IsFormedInst b (inst 65 (x ∷ y ∷ z ∷ i ∷ j ∷ k ∷ []))
  unfolding shape_of
  chain_of_three x y z i j k hx hy hz hi hj hk =
      formed_ids b 65 (x ∷ y ∷ z ∷ i ∷ j ∷ k ∷ []) true true 0 65535 refl refl (omega arith) (hx, (hy, (hz, (hi, (hj, (hk, tt))))))
