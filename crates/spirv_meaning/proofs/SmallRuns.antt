-- The small modules run as stated.
use Rattle.std.proofs.Common.{nat_eq, slice_index, refl, ap, true≢false}
use Rattle.dxil_meaning.specs.Rows.{phi_swap}
use Rattle.spirv_meaning.specs.Empty.{empty_program, empty_module, lonely_module}
use Rattle.spirv_meaning.specs.Rows.{declarations, module_of, swap_module, SwapStores, SwapIsBusy, SwapBeginsBlocks, LabelIsSite, LocalSizeIsTheModules, OtherLocalSizeIsNotSame, PlainBindingsAreTheFormula, BindingsNameTheResource, NoBindingIsUndefined, StoreToAnInputIsUndefined, EmptyShaderEnds, EmptyShaderIsBusy, EmptyShaderBeginsBlock, GroupNumberIsStored, LastWordIsLoaded, PastTheEndIsUndefined, RowIsFourWords, SharedWordIsStored, AtomicMinimum, SignedMinimum, AtomicOfAnotherScopeIsUndefined, ControlBarrierSyncs, MemoryBarrierDoesNot, BarrierOfNobody, ArmsOfTwoKindsAreUndefined, ArmWithoutValueIsUndefined, ChosenArmIsStored, DivisionByZeroIsUndefined, LengthIsStored}

pub label_is_site : LabelIsSite
unfolding empty_program empty_module
label_is_site = (refl, refl)

pub empty_shader_ends : EmptyShaderEnds
unfolding empty_program empty_module
empty_shader_ends = refl

pub empty_shader_is_busy : EmptyShaderIsBusy
unfolding empty_program empty_module
empty_shader_is_busy = refl

pub empty_shader_begins_block : EmptyShaderBeginsBlock
unfolding empty_program empty_module
empty_shader_begins_block = refl

pub local_size_is_the_modules : LocalSizeIsTheModules
unfolding lonely_module
local_size_is_the_modules = refl

pub other_local_size_is_not_same : OtherLocalSizeIsNotSame
unfolding empty_program lonely_module
other_local_size_is_not_same same = true≢false (ap (λ local. nat_eq (slice_index local 0) 1) same.local)

pub plain_bindings_are_the_formula : PlainBindingsAreTheFormula
plain_bindings_are_the_formula = refl

pub bindings_name_the_resource : BindingsNameTheResource
unfolding module_of declarations
bindings_name_the_resource = refl

pub no_binding_is_undefined : NoBindingIsUndefined
unfolding module_of declarations
no_binding_is_undefined = refl

pub store_to_an_input_is_undefined : StoreToAnInputIsUndefined
unfolding module_of declarations
store_to_an_input_is_undefined = refl

pub group_number_is_stored : GroupNumberIsStored
unfolding module_of declarations
group_number_is_stored = refl

pub last_word_is_loaded : LastWordIsLoaded
unfolding module_of declarations
last_word_is_loaded = refl

pub past_the_end_is_undefined : PastTheEndIsUndefined
unfolding module_of declarations
past_the_end_is_undefined = refl

pub row_is_four_words : RowIsFourWords
unfolding module_of declarations
row_is_four_words = refl

pub shared_word_is_stored : SharedWordIsStored
unfolding module_of declarations
shared_word_is_stored = refl

pub atomic_minimum : AtomicMinimum
unfolding module_of declarations
atomic_minimum = refl

pub signed_minimum : SignedMinimum
unfolding module_of declarations
signed_minimum = refl

pub atomic_of_another_scope_is_undefined : AtomicOfAnotherScopeIsUndefined
unfolding module_of declarations
atomic_of_another_scope_is_undefined = refl

pub control_barrier_syncs : ControlBarrierSyncs
unfolding module_of declarations
control_barrier_syncs = refl

pub memory_barrier_does_not : MemoryBarrierDoesNot
unfolding module_of declarations
memory_barrier_does_not = refl

pub barrier_of_nobody : BarrierOfNobody
unfolding module_of declarations
barrier_of_nobody = refl

pub arms_of_two_kinds_are_undefined : ArmsOfTwoKindsAreUndefined
unfolding module_of declarations
arms_of_two_kinds_are_undefined = refl

pub arm_without_value_is_undefined : ArmWithoutValueIsUndefined
unfolding module_of declarations
arm_without_value_is_undefined = refl

pub chosen_arm_is_stored : ChosenArmIsStored
unfolding module_of declarations
chosen_arm_is_stored = refl

pub division_by_zero_is_undefined : DivisionByZeroIsUndefined
unfolding module_of declarations
division_by_zero_is_undefined = refl

pub length_is_stored : LengthIsStored
unfolding module_of declarations
length_is_stored = refl

pub swap_stores : SwapStores
unfolding swap_module module_of declarations
swap_stores = refl

pub swap_is_busy : SwapIsBusy
unfolding swap_module module_of declarations
swap_is_busy = refl

pub swap_begins_blocks : SwapBeginsBlocks
unfolding swap_module module_of declarations phi_swap
swap_begins_blocks = (refl, refl)
