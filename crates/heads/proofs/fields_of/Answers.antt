use Rattle.heads.proofs.Heads.{port_fits}
use Rattle.cursor.proofs.Parts.{field_order, field_end}
use Rattle.heads.proofs.fields_of.Goals as goal

pub overflow_cast-result : goal.overflow_cast-result
overflow_cast-result c = port_fits _ _ _ c.figure.ensures _ _ c.in_ok-port.was

pub slice_bounds-kind_of-start : goal.slice_bounds-kind_of-start
slice_bounds-kind_of-start c = field_order _ _ _ c.field.ensures _ _ _ c.in_ok-a.was

pub slice_bounds-transport_of-start : goal.slice_bounds-transport_of-start
slice_bounds-transport_of-start c = field_order _ _ _ c.field-2.ensures _ _ _ c.in_ok-c.was

pub slice_bounds-kind_of-count : goal.slice_bounds-kind_of-count
slice_bounds-kind_of-count c = field_order _ _ _ c.field.ensures _ _ _ c.in_ok-a.was

pub slice_bounds-transport_of-count : goal.slice_bounds-transport_of-count
slice_bounds-transport_of-count c = field_order _ _ _ c.field-2.ensures _ _ _ c.in_ok-c.was

pub slice_bounds-kind_of-end : goal.slice_bounds-kind_of-end
slice_bounds-kind_of-end c = field_end _ _ _ c.field.ensures _ _ _ c.in_ok-a.was

pub slice_bounds-transport_of-end : goal.slice_bounds-transport_of-end
slice_bounds-transport_of-end c = field_end _ _ _ c.field-2.ensures _ _ _ c.in_ok-c.was
