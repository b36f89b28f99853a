use Rattle.dxil_meaning.proofs.SmallRuns.{arithmetic as arithmetic_row, thread_numbers as thread_numbers_row, phi_swap_stores as phi_swap_stores_row, phi_swap_is_busy as phi_swap_is_busy_row, masked_store_is_one as masked_store_is_one_row, element_is_at_word14 as element_is_at_word14_row, offset_between_words_is_undefined as offset_between_words_is_undefined_row, atomic_minimum as atomic_minimum_row, unsigned_minimum as unsigned_minimum_row, signed_minimum as signed_minimum_row, group_is_released as group_is_released_row, end_while_waiting_is_undefined as end_while_waiting_is_undefined_row, missed_barrier_is_undefined as missed_barrier_is_undefined_row, barrier_at_another_site_is_undefined as barrier_at_another_site_is_undefined_row, few_steps_are_busy as few_steps_are_busy_row}
use Rattle.dxil_meaning.proofs.rows.worked_rows.Goals as goal

pub returns : goal.returns
returns c =
    record {
      arithmetic = arithmetic_row;
      thread_numbers = thread_numbers_row;
      phi_swap_stores = phi_swap_stores_row;
      phi_swap_is_busy = phi_swap_is_busy_row;
      masked_store_is_one = masked_store_is_one_row;
      element_is_at_word14 = element_is_at_word14_row;
      offset_between_words_is_undefined = offset_between_words_is_undefined_row;
      atomic_minimum = atomic_minimum_row;
      unsigned_minimum = unsigned_minimum_row;
      signed_minimum = signed_minimum_row;
      group_is_released = group_is_released_row;
      end_while_waiting_is_undefined = end_while_waiting_is_undefined_row;
      missed_barrier_is_undefined = missed_barrier_is_undefined_row;
      barrier_at_another_site_is_undefined = barrier_at_another_site_is_undefined_row;
      few_steps_are_busy = few_steps_are_busy_row;
    }
