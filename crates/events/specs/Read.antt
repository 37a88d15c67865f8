-- The event that a value of the code stands for.
use Rattle.events.specs.Event.{Event, function, parameter, thing, opens, closes, declares, uses, calls, ends}
use Rattle.events.specs.declared.event.Event as C
use Rattle.events.specs.declared.event.Event.TheVariants.{Function, Parameter, Thing, Opens, Closes, Declares, Uses, Calls, Ends}

abbrev pub as_event : C.Event → Event
as_event (Function i) = function i
as_event (Parameter i) = parameter i
as_event (Thing d i) = thing d i
as_event Opens = opens
as_event Closes = closes
as_event (Declares i) = declares i
as_event (Uses i) = uses i
as_event (Calls i n) = calls i n
as_event (Ends i b) = ends i b
