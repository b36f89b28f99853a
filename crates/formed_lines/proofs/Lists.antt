-- Lists of formed instructions, and what is known behind them.
use Rattle.std.proofs.Common.{◌≡◌, ℕ, zero, suc, ◌+◌, ◌≤◌, ◌<◌, false, List, [], ◌∷◌, ◌++◌, length, length-append, Some, sym, ◌∙◌, subst, arith, ⊎_elim}
use Rattle.std.specs.Prelude.{All}
use Rattle.dxil_form.specs.declared.value.Reg.{Reg}
use Rattle.spv_form.specs.declared.module.Inst.{Inst}
use Rattle.spv_form.specs.Formed.{IsIdBelow, IsFormedInst}
use Rattle.spirv_code.specs.Plans.{Context, result}
use Rattle.spirv_code.specs.Reads.{Env, with_id, same_reg}
use Rattle.frame_facts.proofs.Searches.{Each, each_append}
use Rattle.line_runs.proofs.Tests.{some_inj, env_here, env_there, told}
use Rattle.formed_lines.specs.Formed.{Upto, KnownBelow}

abbrev pub AreFormed : ℕ → List Inst → Type 0
AreFormed b code = Each (IsFormedInst b) code

pub join : (b : ℕ) (xs ys : List Inst) → AreFormed b xs → AreFormed b ys → AreFormed b (xs ++ ys)
join b xs ys h k = each_append (IsFormedInst b) xs ys h k

-- each of them, by its place
pub all_formed : (b : ℕ) (xs : List Inst) → AreFormed b xs → All (IsFormedInst b) xs
all_formed b [] h k d lt = absurd (omega (arith, lt))
all_formed b (x ∷ xs) h zero d lt = h.0
all_formed b (x ∷ xs) h (suc k) d lt = all_formed b xs h.1 k d (omega (arith, lt))

-- and the other way
pub each_formed : (b : ℕ) (xs : List Inst) → All (IsFormedInst b) xs → AreFormed b xs
each_formed b [] h = tt
each_formed b (x ∷ xs) h =
    (h zero x (omega arith), each_formed b xs (λ k d lt. h (suc k) d (omega (arith, lt))))

pub up : (b : ℕ) (c : Context) (m n : ℕ) → m ≤ n → Upto b c n → Upto b c m
up b c m n le upto k lt = upto k (omega (arith, le, lt))

pub with_known : (b : ℕ) (to : Reg) (id : ℕ) (env : Env) → IsIdBelow b id → KnownBelow b env → KnownBelow b (with_id to id env)
with_known b to id env ok known reg x e = ⊎_elim same other (told to reg)
  where
    same : to ≡ reg → IsIdBelow b x
    same is =
        subst (IsIdBelow b) (some_inj (sym (env_here to id env) ∙ subst (λ r. with_id to id env r ≡ Some x) (sym is) e)) ok

    other : same_reg to reg ≡ false → IsIdBelow b x
    other differs = known reg x (sym (env_there to id env reg differs) ∙ e)

-- code, and what is known behind it
pub record CodeOk (b : ℕ) (code : List Inst) (env : Env) : Type 0 where
  pub formed : AreFormed b code
  pub known : KnownBelow b env

-- ---- places

-- one of the results below a place is known
pub known_at : (b : ℕ) (c : Context) (to : Reg) (k n : ℕ) (env : Env) → k < n → Upto b c n → KnownBelow b env → KnownBelow b (with_id to (result c k) env)
known_at b c to k n env lt upto known = with_known b to (result c k) env (upto k lt) known

-- the places of the front of a code, and those of all of it, by the length of the front
pub upto_front : (b : ℕ) (c : Context) (place n : ℕ) (front back : List Inst) → length front ≡ n → Upto b c (place + length (front ++ back)) → Upto b c (place + n)
upto_front b c place n front back e upto = up b c _ _ (omega (arith, length-append front back, e)) upto

pub upto_back : (b : ℕ) (c : Context) (place n : ℕ) (front back : List Inst) → length front ≡ n → Upto b c (place + length (front ++ back)) → Upto b c (place + n + length back)
upto_back b c place n front back e upto = up b c _ _ (omega (arith, length-append front back, e)) upto
