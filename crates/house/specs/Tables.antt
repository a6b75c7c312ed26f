-- What the tables that reading fills say, as those of a house read from a text of a length.
use Rattle.std.specs.Prelude.{ℕ}
use Rattle.table.specs.Held.{held}
use Rattle.house.specs.declared.tables.Tables.{Tables}
use Rattle.house.specs.View.{View, rule_views}

abbrev pub tables_view : ℕ → Tables → View
tables_view size t = record { parties = held t.parties; items = held t.items; rules = rule_views (held t.rules); asked = t.asked; size = size }
