-- Accesses at the edges of their memory go as stated.
use Rattle.std.proofs.Common.{refl}
use Rattle.dxil_meaning.specs.Edges as edge

pub last_word_is_loaded : edge.LastWordIsLoaded
last_word_is_loaded = refl

pub load_past_the_end_is_zero : edge.LoadPastTheEndIsZero
load_past_the_end_is_zero = refl

pub offset_past_the_end_is_undefined : edge.OffsetPastTheEndIsUndefined
offset_past_the_end_is_undefined = refl

pub two_parts_are_stored : edge.TwoPartsAreStored
two_parts_are_stored = refl

pub dropped_parts_are_steps : edge.DroppedPartsAreSteps
dropped_parts_are_steps = refl

pub dropped_value_is_read : edge.DroppedValueIsRead
dropped_value_is_read = refl

pub parts_past_the_element_are_zero : edge.PartsPastTheElementAreZero
parts_past_the_element_are_zero = refl

pub far_element_is_zero : edge.FarElementIsZero
far_element_is_zero = refl

pub part_of_an_element_is_zero : edge.PartOfAnElementIsZero
part_of_an_element_is_zero = refl

pub row_past_the_end_is_zero : edge.RowPastTheEndIsZero
row_past_the_end_is_zero = refl

pub atomic_past_the_end_is_zero : edge.AtomicPastTheEndIsZero
atomic_past_the_end_is_zero = refl

pub atomic_value_is_read : edge.AtomicValueIsRead
atomic_value_is_read = refl

pub swap_past_the_end_fails : edge.SwapPastTheEndFails
swap_past_the_end_fails = refl

pub size_is_in_words : edge.SizeIsInWords
size_is_in_words = refl
