use Rattle.spirv_code.proofs.SmallModules as row
use Rattle.spirv_code.proofs.rows.worked_rows.Goals as goal

pub returns : goal.returns
returns c =
    record {
      empty_shader = row.empty_shader;
      empty_shader_bound = row.empty_shader_bound;
      thread_number_is_stored = row.thread_number_is_stored;
      thread_number_at_version13 = row.thread_number_at_version13;
      ring_is_loop = row.ring_is_loop;
    }
