use Rattle.bundle_link_index.specs.Reached.{InLine, IsReachNoted}
use Rattle.bundle_link_index.proofs.line.answer_in_line.Given as goal

abbrev pub invariant-loop : goal.invariant-loop
invariant-loop l = record {
  line : InLine l.index l.fn.at l.line.keys l.end;
  noted : IsReachNoted l.index l.reach;
}
