-- Lists whose items are written in turn, each under the next id.
use Rattle.std.proofs.Common.{◌≡◌, ℕ, suc, ◌+◌, ◌<◌, Bool, true, false, if◌then◌else◌, List, [], ◌∷◌, ◌++◌, length, drop, get_or, refl, sym, ap, ◌∙◌, append_assoc}
use Rattle.std.proofs.lemmas.List.{at_drop_more}
use Rattle.dxil_form.specs.declared.program.Program.{Program}
use Rattle.dxil_form.specs.declared.region.Region.{Region}
use Rattle.spv_form.specs.declared.module.Inst.{Inst}
use Rattle.spv_form.specs.declared.module.Version.{Version}
use Rattle.spirv_meaning.specs.Bindings.{Bindings}
use Rattle.spirv_code.specs.declared.key.Global.{Global}
use Rattle.spirv_code.specs.declared.key.Slot.{Slot}
use Rattle.spirv_code.specs.Frame.{declaration, declarations, decorations, decorations_of, interface, is_listed, name_of, names, slot_variable, slot_variables}

numbered_next : {X A : Type 0} (F : ℕ → List X → List A) (f : ℕ → X → List A) → ((n : ℕ) (x : X) (xs : List X) → F n (x ∷ xs) ≡ f n x ++ F (suc n) xs) → (xs : List X) (i n m : ℕ) (d : X) (code new all : List A) → i < length xs → m ≡ suc n → new ≡ code ++ f n (get_or xs i d) → code ++ F n (drop i xs) ≡ all → new ++ F m (drop (i + 1) xs) ≡ all
numbered_next F f cons xs i n m d code new all within next one before =
    ap (λ o. o ++ F m (drop (i + 1) xs)) one
    ∙ append_assoc code (f n (get_or xs i d)) (F m (drop (i + 1) xs))
    ∙ ap (λ k. code ++ (f n (get_or xs i d) ++ F k (drop (i + 1) xs))) next
    ∙ ap (λ o. code ++ o) (sym (cons n (get_or xs i d) (drop (i + 1) xs)))
    ∙ ap (λ o. code ++ o) (sym (at_drop_more (F n) xs i d within))
    ∙ before

pub declarations_next : (p : Program) (ids : Global → ℕ) (table : List Global) (i n m : ℕ) (d : Global) (code new all : List Inst) → i < length table → m ≡ suc n → new ≡ code ++ declaration p ids n (get_or table i d) ∷ [] → code ++ declarations p ids n (drop i table) ≡ all → new ++ declarations p ids m (drop (i + 1) table) ≡ all
declarations_next p ids table i n m d code new all within next one before =
    numbered_next (declarations p ids) (λ k g. declaration p ids k g ∷ []) (λ k g gs. refl) table i n m d code new all within next one before

pub slots_next : (ids : Global → ℕ) (slots : List Slot) (i n m : ℕ) (d : Slot) (code new all : List Inst) → i < length slots → m ≡ suc n → new ≡ code ++ slot_variable ids n (get_or slots i d) ∷ [] → code ++ slot_variables ids n (drop i slots) ≡ all → new ++ slot_variables ids m (drop (i + 1) slots) ≡ all
slots_next ids slots i n m d code new all within next one before =
    numbered_next (slot_variables ids) (λ k s. slot_variable ids k s ∷ []) (λ k s ss. refl) slots i n m d code new all within next one before

pub decorations_next : (p : Program) (at : Bindings) (table : List Global) (i n m : ℕ) (d : Global) (code new all : List Inst) → i < length table → m ≡ suc n → new ≡ code ++ decorations_of p at n (get_or table i d) → code ++ decorations p at n (drop i table) ≡ all → new ++ decorations p at m (drop (i + 1) table) ≡ all
decorations_next p at table i n m d code new all within next one before =
    numbered_next (decorations p at) (decorations_of p at) (λ k g gs. refl) table i n m d code new all within next one before

pub names_next : (list : List Region) (i n m : ℕ) (d : Region) (code new all : List Inst) → i < length list → m ≡ suc n → new ≡ code ++ name_of n (get_or list i d) → code ++ names n (drop i list) ≡ all → new ++ names m (drop (i + 1) list) ≡ all
names_next list i n m d code new all within next one before =
    numbered_next names name_of (λ k x xs. refl) list i n m d code new all within next one before

pub interface_next : (v : Version) (table : List Global) (i n m : ℕ) (d : Global) (ids new all : List ℕ) → i < length table → m ≡ suc n → new ≡ ids ++ interface v n (get_or table i d ∷ []) → ids ++ interface v n (drop i table) ≡ all → new ++ interface v m (drop (i + 1) table) ≡ all
interface_next v table i n m d ids new all within next one before =
    numbered_next (interface v) (λ k g. interface v k (g ∷ [])) (λ k g gs. by_listed k gs (is_listed v g)) table i n m d ids new all within next one before
  where
    by_listed : (k : ℕ) (gs : List Global) (b : Bool) → (if b then k ∷ interface v (suc k) gs else interface v (suc k) gs) ≡ (if b then k ∷ [] else []) ++ interface v (suc k) gs
    by_listed k gs true = refl
    by_listed k gs false = refl
