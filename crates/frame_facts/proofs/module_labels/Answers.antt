use Rattle.frame_facts.proofs.Regions.{once, others, sites}
use Rattle.frame_facts.proofs.module_labels.Goals as goal

pub returns : goal.returns
returns c p list at v plan w regions few =
    record { once = once p list at v plan w regions; sites = sites p list at v plan w regions few; others = others p list at v plan w regions }
