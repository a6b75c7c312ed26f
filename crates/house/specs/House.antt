-- The view of a house.
use Rattle.house.specs.declared.store.House.{House}
use Rattle.house.specs.View.{View}
use Rattle.house.specs.Tables.{tables_view}

abbrev pub view : House → View
view h = tables_view h.text_length h.tables
