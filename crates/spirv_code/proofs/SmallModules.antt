-- The small programs are lowered as stated.
use Rattle.std.proofs.Common.{refl}
use Rattle.spirv_code.specs.Reads.{no_register, with_id}
use Rattle.spirv_code.specs.Worked.{EmptyShader, EmptyShaderBound, RingIsLoop, ThreadNumberAtVersion13, ThreadNumberIsStored}

pub empty_shader : EmptyShader
unfolding no_register with_id
empty_shader = refl

pub empty_shader_bound : EmptyShaderBound
unfolding no_register with_id
empty_shader_bound = refl

pub thread_number_is_stored : ThreadNumberIsStored
unfolding no_register with_id
thread_number_is_stored = refl

pub thread_number_at_version13 : ThreadNumberAtVersion13
unfolding no_register with_id
thread_number_at_version13 = refl

pub ring_is_loop : RingIsLoop
unfolding no_register with_id
ring_is_loop = refl
