use Rattle.lines.proofs.Addresses.{number_small, dotted_small}
use Rattle.lines.proofs.connection.address.Goals as goal

pub join-requires : goal.join-requires
join-requires c = (
  dotted_small _ _ _ _ _ c.dotted.ensures c.in_ok-a.was,
  (
    dotted_small _ _ _ _ _ c.dotted-2.ensures c.in_ok-b.was,
    (
      dotted_small _ _ _ _ _ c.dotted-3.ensures c.in_ok-c.was,
      number_small _ _ _ _ _ c.figure.ensures c.in_ok-d.was,
    ),
  ),
)
