-- The memory that the code lends to an evaluation. Contracts between layers cite this; no promise about an answer does.
use Rattle.value.specs.Places.{Memory, over_all}
use Rattle.value.specs.declared.Memory.{Memory as Lent}
use Rattle.value.specs.declared.Strings.{Strings}

abbrev pub memory_of : Lent → Memory
memory_of m = over_all m.expr.now m.settings.own.now m.settings.table.now

-- the same, of which only the strings are read
abbrev pub strings_of : Strings → Memory
strings_of s = over_all s.expr.now s.own.now s.table.now
