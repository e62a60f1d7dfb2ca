use Rattle.std.proofs.Common.{subst}
use Rattle.bundle_link_index.specs.Graph.{graph_of}
use Rattle.bundle_link_index.specs.Leads.{lead_of}
use Rattle.bundle_link_index.specs.Numbered.{index_names, values_of}
use Rattle.bundle_link_tables.specs.TablesOf.{export_entry_of}
use Rattle.bundle_link_index.specs.Said.{IsSaidNumber, said_of}
use Rattle.bundle_link_index.proofs.NumberedLemmas.{Holds-next}
use Rattle.bundle_link_index.proofs.index.add_entry.Goals as goal

pub returns : goal.returns
returns c = λ imports finds noted stars w.
    Holds-next noted stars (index_names c.args.numbers.now) (index_names c.of_name.new.self) (index_names c.of_own.new.self)
    (values_of c.args.numbers.now) (values_of c.of_name.new.self) (values_of c.of_own.new.self)
    (graph_of c.args.links.now) (graph_of c.add_own.new.self) c.args.number c.in_ok-name.name c.args.export.name.now
    (said_of (lead_of c.args.kinds.now c.args.number) c.args.number imports (export_entry_of c.args.export)) c.in_ok-own.own
    c.in_ok-name.ensures.names c.in_ok-name.ensures.values c.in_ok-own.ensures.more.names c.in_ok-own.ensures.more.values
    (subst (λ said. IsSaidNumber (index_names c.of_own.new.self) (values_of c.of_own.new.self) said c.in_ok-own.own) (c.own_entry.ensures imports finds) c.in_ok-own.ensures.number)
    c.in_ok-add_own.ensures.own c.in_ok-add_own.ensures.stars c.in_ok-add_own.ensures.default w
