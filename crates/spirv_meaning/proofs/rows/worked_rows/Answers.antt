use Rattle.spirv_meaning.proofs.SmallRuns as row
use Rattle.spirv_meaning.proofs.rows.worked_rows.Goals as goal

pub returns : goal.returns
returns c =
    record {
      label_is_site = row.label_is_site;
      empty_shader_ends = row.empty_shader_ends;
      empty_shader_is_busy = row.empty_shader_is_busy;
      empty_shader_begins_block = row.empty_shader_begins_block;
      local_size_is_the_modules = row.local_size_is_the_modules;
      other_local_size_is_not_same = row.other_local_size_is_not_same;
      plain_bindings_are_the_formula = row.plain_bindings_are_the_formula;
      group_number_is_stored = row.group_number_is_stored;
      last_word_is_loaded = row.last_word_is_loaded;
      past_the_end_is_undefined = row.past_the_end_is_undefined;
      bindings_name_the_resource = row.bindings_name_the_resource;
      no_binding_is_undefined = row.no_binding_is_undefined;
      row_is_four_words = row.row_is_four_words;
      store_to_an_input_is_undefined = row.store_to_an_input_is_undefined;
      shared_word_is_stored = row.shared_word_is_stored;
      atomic_minimum = row.atomic_minimum;
      signed_minimum = row.signed_minimum;
      atomic_of_another_scope_is_undefined = row.atomic_of_another_scope_is_undefined;
      control_barrier_syncs = row.control_barrier_syncs;
      memory_barrier_does_not = row.memory_barrier_does_not;
      barrier_of_nobody = row.barrier_of_nobody;
      arms_of_two_kinds_are_undefined = row.arms_of_two_kinds_are_undefined;
      arm_without_value_is_undefined = row.arm_without_value_is_undefined;
      chosen_arm_is_stored = row.chosen_arm_is_stored;
      division_by_zero_is_undefined = row.division_by_zero_is_undefined;
      length_is_stored = row.length_is_stored;
      swap_stores = row.swap_stores;
      swap_is_busy = row.swap_is_busy;
      swap_begins_blocks = row.swap_begins_blocks;
    }
