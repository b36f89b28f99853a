-- The broken rule of least number.
use Rattle.std.proofs.Common.{ℕ, ◌≡◌, refl, sym, subst, ◌∙◌, arith, List, Bool, Err, Option, Some, None, true, false, get_or}
use Rattle.dx_base.specs.First.{IsSound}
use Rattle.dx_base.specs.declared.fault.Fault.{Fault}
use Rattle.dx_base.specs.declared.fault.Fault.TheVariants.{Refused}
use Rattle.dx_base.specs.declared.fault.Rule.TheVariants.{N}
use Rattle.llvm_facts.specs.Facts.{CheckAnswer}
use Rattle.llvm_nodes.specs.declared.item.Meta.{Meta}
use Rattle.llvm_facts.specs.declared.roots.Root.TheVariants.{ShaderModel, EntryPoints}
use Rattle.llvm_facts.specs.Module.{Module}
use Rattle.llvm_facts.specs.Values.{node_at}
use Rattle.llvm_facts.specs.Faults.{IsLeastBit}
use Rattle.llvm_facts.specs.Roots.{IsRootFault}
use Rattle.llvm_facts.specs.Entry.{IsThreadsFault, IsCountsFault, has_threads, are_outside, local, counts_bit}
use Rattle.llvm_facts.specs.Rows.{IsListFault}
use Rattle.llvm_facts.specs.Rules.{Broken, shader_model, entry_points, no_threads, outside, rows, IsFirstByNumber, entry_of, entry_bit}

-- a refusal with its rule and bit
pub refusal : (m : Module) (meta : Meta) (fault : Fault) (rule bit : ℕ) → fault ≡ Refused (N rule) bit → IsFirstByNumber (Broken m meta) rule bit → CheckAnswer (Err fault) m meta
refusal m meta fault rule bit e h = subst (λ (f : Fault). CheckAnswer (Err f) m meta) (sym e) h

module _ (m : Module) (meta : Meta) where
  -- what is known of the entry node by its fields
  pub threads_at : (entry : List ℕ) (b : Bool) → entry ≡ entry_of m meta → has_threads m (node_at m (get_or entry 4 0)) ≡ b → has_threads m (node_at m (get_or (entry_of m meta) 4 0)) ≡ b
  threads_at entry b e h = subst (λ (l : List ℕ). has_threads m (node_at m (get_or l 4 0)) ≡ b) e h

  pub outside_at : (entry : List ℕ) (b : Bool) → entry ≡ entry_of m meta → are_outside (local m entry) ≡ b → are_outside (local m (entry_of m meta)) ≡ b
  outside_at entry b e h = subst (λ (l : List ℕ). are_outside (local m l) ≡ b) e h

  pub rows_at : (entry : List ℕ) (bit : ℕ) (fault told : Option ℕ) → entry ≡ entry_of m meta → bit ≡ entry_bit m meta → fault ≡ told → IsLeastBit (IsListFault m entry bit) fault → IsLeastBit (IsListFault m (entry_of m meta) (entry_bit m meta)) told
  rows_at entry bit fault told e b f h =
      subst (λ (o : Option ℕ). IsLeastBit (IsListFault m (entry_of m meta) (entry_bit m meta)) o) f
      (subst (λ (k : ℕ). IsLeastBit (IsListFault m (entry_of m meta) k) fault) b (subst (λ (l : List ℕ). IsLeastBit (IsListFault m l bit) fault) e h))

  pub first_model : (bit : ℕ) → IsLeastBit (IsRootFault m ShaderModel meta.named meta.end) (Some bit) → IsFirstByNumber (Broken m meta) 5 bit
  first_model bit h = record {
    broken = shader_model refl h.0;
    least = λ at b. elim b [
      | shader_model e f ↦ h.1 at f
      | entry_points e f ↦ absurd (omega (arith, e))
      | no_threads e f ↦ absurd (omega (arith, e))
      | outside e f ↦ absurd (omega (arith, e))
      | rows e f ↦ absurd (omega (arith, e))
    ];
    none = λ other at l b. elim b [
      | shader_model e f ↦ omega (arith, e, l)
      | entry_points e f ↦ omega (arith, e, l)
      | no_threads e f ↦ omega (arith, e, l)
      | outside e f ↦ omega (arith, e, l)
      | rows e f ↦ omega (arith, e, l)
    ];
  }

  module _ (n5 : IsLeastBit (IsRootFault m ShaderModel meta.named meta.end) None) where
    pub first_entry : (bit : ℕ) → IsLeastBit (IsRootFault m EntryPoints meta.named meta.end) (Some bit) → IsFirstByNumber (Broken m meta) 6 bit
    first_entry bit h = record {
      broken = entry_points refl h.0;
      least = λ at b. elim b [
        | shader_model e f ↦ absurd (omega (arith, e))
        | entry_points e f ↦ h.1 at f
        | no_threads e f ↦ absurd (omega (arith, e))
        | outside e f ↦ absurd (omega (arith, e))
        | rows e f ↦ absurd (omega (arith, e))
      ];
      none = λ other at l b. elim b [
        | shader_model e f ↦ n5 at f
        | entry_points e f ↦ omega (arith, e, l)
        | no_threads e f ↦ omega (arith, e, l)
        | outside e f ↦ omega (arith, e, l)
        | rows e f ↦ omega (arith, e, l)
      ];
    }

    module _ (n6 : IsLeastBit (IsRootFault m EntryPoints meta.named meta.end) None) where
      pub first_threads : (bit : ℕ) → bit ≡ entry_bit m meta → has_threads m (node_at m (get_or (entry_of m meta) 4 0)) ≡ false → IsFirstByNumber (Broken m meta) 7 bit
      first_threads bit i h = record {
        broken = no_threads refl (h, i);
        least = λ at b. elim b [
          | shader_model e f ↦ absurd (omega (arith, e))
          | entry_points e f ↦ absurd (omega (arith, e))
          | no_threads e f ↦ omega (arith, f.1, i)
          | outside e f ↦ absurd (omega (arith, e))
          | rows e f ↦ absurd (omega (arith, e))
        ];
        none = λ other at l b. elim b [
          | shader_model e f ↦ n5 at f
          | entry_points e f ↦ n6 at f
          | no_threads e f ↦ omega (arith, e, l)
          | outside e f ↦ omega (arith, e, l)
          | rows e f ↦ omega (arith, e, l)
        ];
      }

      module _ (n7 : has_threads m (node_at m (get_or (entry_of m meta) 4 0)) ≡ true) where
        found : (at : ℕ) → IsThreadsFault m (entry_of m meta) (entry_bit m meta) at → ⊥
        found at f = let c : true ≡ false = sym n7 ∙ f.0 in cc

        pub first_counts : (bit : ℕ) → bit ≡ counts_bit m (entry_of m meta) → are_outside (local m (entry_of m meta)) ≡ true → IsFirstByNumber (Broken m meta) 8 bit
        first_counts bit i h = record {
          broken = outside refl (h, i);
          least = λ at b. elim b [
            | shader_model e f ↦ absurd (omega (arith, e))
            | entry_points e f ↦ absurd (omega (arith, e))
            | no_threads e f ↦ absurd (omega (arith, e))
            | outside e f ↦ omega (arith, f.1, i)
            | rows e f ↦ absurd (omega (arith, e))
          ];
          none = λ other at l b. elim b [
            | shader_model e f ↦ n5 at f
            | entry_points e f ↦ n6 at f
            | no_threads e f ↦ found at f
            | outside e f ↦ omega (arith, e, l)
            | rows e f ↦ omega (arith, e, l)
          ];
        }

        module _ (n8 : are_outside (local m (entry_of m meta)) ≡ false) where
          within : (at : ℕ) → IsCountsFault m (entry_of m meta) at → ⊥
          within at f = let c : true ≡ false = sym f.0 ∙ n8 in cc

          pub first_rows : (bit : ℕ) → IsLeastBit (IsListFault m (entry_of m meta) (entry_bit m meta)) (Some bit) → IsFirstByNumber (Broken m meta) 9 bit
          first_rows bit h = record {
            broken = rows refl h.0;
            least = λ at b. elim b [
              | shader_model e f ↦ absurd (omega (arith, e))
              | entry_points e f ↦ absurd (omega (arith, e))
              | no_threads e f ↦ absurd (omega (arith, e))
              | outside e f ↦ absurd (omega (arith, e))
              | rows e f ↦ h.1 at f
            ];
            none = λ other at l b. elim b [
              | shader_model e f ↦ n5 at f
              | entry_points e f ↦ n6 at f
              | no_threads e f ↦ found at f
              | outside e f ↦ within at f
              | rows e f ↦ omega (arith, e, l)
            ];
          }

          pub sound : IsLeastBit (IsListFault m (entry_of m meta) (entry_bit m meta)) None → IsSound (Broken m meta)
          sound h = record {
            none = λ rule at b. elim b [
              | shader_model e f ↦ n5 at f
              | entry_points e f ↦ n6 at f
              | no_threads e f ↦ found at f
              | outside e f ↦ within at f
              | rows e f ↦ h at f
            ];
          }
