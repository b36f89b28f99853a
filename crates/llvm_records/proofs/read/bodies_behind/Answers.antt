use Rattle.std.proofs.Common.{◌∙◌, sym, ap, subst}
use Rattle.llvm_bodies.specs.Reading.{AreFew, BodiesAnswer}
use Rattle.llvm_bodies.specs.declared.facts.ModuleFacts.{ModuleFacts}
use Rattle.llvm_records.specs.Facts.{HaveFewParams, facts_of}
use Rattle.llvm_records.proofs.FewLaws.{few_params, facts_few, same_facts}
use Rattle.llvm_records.proofs.read.bodies_behind.Goals as goal

pub facts_of-requires : goal.facts_of-requires
facts_of-requires c = subst HaveFewParams (sym c.requires.types) (few_params c.args.items.now.list c.args.items.now.fields c.requires.framed)

pub read_bodies-requires-clause-small : goal.read_bodies-requires-clause-small
read_bodies-requires-clause-small c =
    subst AreFew (sym (c.in-Ok.ensures ∙ ap (facts_of c.args.types.now.list) c.as_slice.ensures ∙ same_facts c.args.items.now.list c.args.items.now.fields c.args.types.now.list c.args.globals.now c.requires.types c.requires.globals)) (facts_few c.args.items.now.list c.args.items.now.fields c.requires.framed)

pub returns-in-Ok : goal.returns-in-Ok
returns-in-Ok c =
    subst (λ (m : ModuleFacts). BodiesAnswer c.read_bodies.result m c.args.items.now.list c.args.items.now.fields)
    (c.in-Ok.ensures ∙ ap (facts_of c.args.types.now.list) c.as_slice.ensures ∙ same_facts c.args.items.now.list c.args.items.now.fields c.args.types.now.list c.args.globals.now c.requires.types c.requires.globals) c.read_bodies.ensures
