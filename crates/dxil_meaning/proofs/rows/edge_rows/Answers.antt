use Rattle.dxil_meaning.proofs.EdgeRuns as row
use Rattle.dxil_meaning.proofs.rows.edge_rows.Goals as goal

pub returns : goal.returns
returns c =
    record {
      last_word_is_loaded = row.last_word_is_loaded;
      load_past_the_end_is_zero = row.load_past_the_end_is_zero;
      offset_past_the_end_is_undefined = row.offset_past_the_end_is_undefined;
      two_parts_are_stored = row.two_parts_are_stored;
      dropped_parts_are_steps = row.dropped_parts_are_steps;
      dropped_value_is_read = row.dropped_value_is_read;
      parts_past_the_element_are_zero = row.parts_past_the_element_are_zero;
      far_element_is_zero = row.far_element_is_zero;
      part_of_an_element_is_zero = row.part_of_an_element_is_zero;
      row_past_the_end_is_zero = row.row_past_the_end_is_zero;
      atomic_past_the_end_is_zero = row.atomic_past_the_end_is_zero;
      atomic_value_is_read = row.atomic_value_is_read;
      swap_past_the_end_fails = row.swap_past_the_end_fails;
      size_is_in_words = row.size_is_in_words;
    }
