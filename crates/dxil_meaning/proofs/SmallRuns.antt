-- The small programs run as stated.
use Rattle.std.proofs.Common.{refl}
use Rattle.dxil_meaning.specs.Rows.{Arithmetic, ThreadNumbers, phi_swap, parting, two_sites, PhiSwapStores, PhiSwapIsBusy, MaskedStoreIsOne, ElementIsAtWord14, OffsetBetweenWordsIsUndefined, AtomicMinimum, UnsignedMinimum, SignedMinimum, GroupIsReleased, EndWhileWaitingIsUndefined, MissedBarrierIsUndefined, BarrierAtAnotherSiteIsUndefined, FewStepsAreBusy}

pub phi_swap_stores : PhiSwapStores
unfolding phi_swap
phi_swap_stores = refl

pub phi_swap_is_busy : PhiSwapIsBusy
unfolding phi_swap
phi_swap_is_busy = refl

pub masked_store_is_one : MaskedStoreIsOne
masked_store_is_one = refl

pub element_is_at_word14 : ElementIsAtWord14
element_is_at_word14 = refl

pub offset_between_words_is_undefined : OffsetBetweenWordsIsUndefined
offset_between_words_is_undefined = refl

pub atomic_minimum : AtomicMinimum
atomic_minimum = refl

pub unsigned_minimum : UnsignedMinimum
unsigned_minimum = refl

pub signed_minimum : SignedMinimum
signed_minimum = refl

pub group_is_released : GroupIsReleased
group_is_released = refl

pub end_while_waiting_is_undefined : EndWhileWaitingIsUndefined
unfolding parting
end_while_waiting_is_undefined = refl

pub missed_barrier_is_undefined : MissedBarrierIsUndefined
unfolding parting
missed_barrier_is_undefined = refl

pub barrier_at_another_site_is_undefined : BarrierAtAnotherSiteIsUndefined
unfolding two_sites
barrier_at_another_site_is_undefined = refl

pub few_steps_are_busy : FewStepsAreBusy
unfolding parting
few_steps_are_busy = refl

pub arithmetic : Arithmetic
arithmetic = record { add_wraps = refl; sub_wraps = refl; mul_wraps = refl; shift_left = refl; shift_right = refl; shift_with_sign = refl; quotient = refl; remainder = refl; remainder_by_negative = refl; below = refl; maximum = refl; minimum = refl; overflows = refl }

pub thread_numbers : ThreadNumbers
thread_numbers = record { flat = refl; in_group = refl; group = refl; thread = refl }
