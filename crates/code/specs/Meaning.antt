-- The entry that a value of the code stands for. A variable is one of 16, and so is a function.
use Rattle.std.specs.Prelude.{◌%◌, ◌<◌}
use Rattle.semantics.specs.Program.{slot}
use Rattle.simulation.specs.Code.{number, name, operate, compare, call, constant, jump, skip, again, begin, ask, own, store, return, fail, Entry, leaf, argument, act}
use Rattle.ints.specs.Meaning.{of_operation, of_comparison}
use Rattle.code.specs.declared.Entry as C
use Rattle.code.specs.declared.Entry.TheVariants.{Fail, Number, Name, Argument, Operate, Compare, Call, Constant, Jump, Skip, Again, Begin, Ask, Own, Store, Return}

abbrev pub as_entry : C.Entry → Entry
as_entry Fail = act fail
as_entry (Number z) = leaf (number z)
as_entry (Name a) = leaf (name (slot (a.0 % 16)))
as_entry (Argument d) = argument d
as_entry (Operate o d) = act (operate (of_operation o) d)
as_entry (Compare c d) = act (compare (of_comparison c) d)
as_entry (Call g n) = act (call (g % 16) n)
as_entry (Constant b) = act (constant b)
as_entry (Jump b d) = act (jump b d)
as_entry (Skip d) = act (skip d)
as_entry (Again d) = act (again d)
as_entry Begin = act begin
as_entry (Ask a) = act (ask (slot (a.0 % 16)))
as_entry (Own a) = act (own (slot (a.0 % 16)))
as_entry (Store a) = act (store (slot (a.0 % 16)))
as_entry Return = act return

-- a value that names its variable or its function by a number below 16: two such values that mean the same are the same
abbrev pub Exact : C.Entry → Type 0
Exact Fail = Unit {0}
Exact (Number z) = Unit {0}
Exact (Name a) = a.0 < 16
Exact (Argument d) = Unit {0}
Exact (Operate o d) = Unit {0}
Exact (Compare c d) = Unit {0}
Exact (Call g n) = g < 16
Exact (Constant b) = Unit {0}
Exact (Jump b d) = Unit {0}
Exact (Skip d) = Unit {0}
Exact (Again d) = Unit {0}
Exact Begin = Unit {0}
Exact (Ask a) = a.0 < 16
Exact (Own a) = a.0 < 16
Exact (Store a) = a.0 < 16
Exact Return = Unit {0}
