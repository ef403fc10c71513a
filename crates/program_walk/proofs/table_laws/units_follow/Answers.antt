use Rattle.program_walk.proofs.PlaceLaws.{units_shown, units_instance, holds_unit, holds_package}
use Rattle.program_walk.proofs.table_laws.units_follow.Goals as goal

pub returns-clause-shown : goal.returns-clause-shown
returns-clause-shown c old new n i b k w held begins = units_shown old new old.regions k w n i b begins held

pub returns-clause-instance : goal.returns-clause-instance
returns-clause-instance c old new n g j b later k w xs held begins same =
    units_instance old new old.regions k w n g j xs b begins later same held

pub returns-clause-unit : goal.returns-clause-unit
returns-clause-unit c symbols seen e now k w n name held = holds_unit now symbols k w n name seen held e

pub returns-clause-text : goal.returns-clause-text
returns-clause-text c symbols text seen e now k w n name g own held = holds_package now symbols k w n name seen text g own held e
