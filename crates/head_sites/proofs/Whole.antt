-- The first site that paths from a loop's header meet is that of one head.
use Rattle.std.proofs.Common.{◌≡◌, ℕ, [], ◌∷◌, ap, ◌∙◌}
use Rattle.std.specs.Prelude.{map}
use Rattle.frame_facts.proofs.Searches.{get_below}
use Rattle.spirv_code.specs.Frame.{module_of}
use Rattle.row_laws.specs.Rows.{loops}
use Rattle.dxil_form.specs.declared.region.Region.TheVariants as region
use Rattle.site_loops.specs.Sites.{IsSite}
use Rattle.site_loops.proofs.Hung.{leaf_under}
use Rattle.site_loops.proofs.Entries.{root_headers}
use Rattle.site_loops.proofs.Function.{number, leaf_site, header_site}
use Rattle.site_loops.proofs.Whole.{words}
use Rattle.head_sites.specs.Laws.{HeadersMeetTheirHeads}
use Rattle.head_sites.proofs.Begun.{header_none, leaf_sole}
use Rattle.head_sites.proofs.Firsts.{meets, sole}

pub meet_heads : HeadersMeetTheirHeads
meet_heads p list at v plan blocks g q by continue_target sound h regions structured header =
    let w = h.wired in
    let nested = h.few blocks structured.reachable structured.few in
    let flat = nested.no_dispatch g structured.graph structured.uncrossed in
    let heads = nested.loops g structured.graph structured.uncrossed in
    let few = words p list sound w in
    let headers = root_headers p list w flat heads.once in
    let b = header.header.block in
    let k = header_site p list at v plan w regions few headers q by ((b, (header.header.at, header.header.merge)), ap loops header.kind) in
    let e = k.enters in
    let u = leaf_under p list g w flat heads e.first e.head e.leaf in
    let s = leaf_site p list at v plan w regions few headers e.first e.head u.over_it e.leaf u.under in
    let goes = k.targets_are ∙ (ap (map (number p list at v plan w regions)) e.targets_are ∙ ap (λ n. n ∷ []) s.number_is) in
    let head = heads.heads e.place e.body e.head e.loop in
    let m = module_of p list at v plan in
    let none : (n : ℕ) → IsSite m n q → ⊥ = λ n site. header_none p list at v plan w regions e.place q n k.labeled (get_below list e.place (region.Loop e.body e.head) e.loop) k.there e.header_is site in
    let sites : (n : ℕ) → IsSite m n s.place → n ≡ e.head = λ n site. leaf_sole p list at v plan w regions few e.first s.place e.head n s.labeled e.leaf s.there s.label_is site in
    (e.head, (head.0, head.1), meets m q s.place e.head b header.header.at goes none s.site, λ n other. sites n (sole m q s.place e.head b header.header.at goes none s.site n other))
