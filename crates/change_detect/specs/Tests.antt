-- What each test tells of a row.
use Rattle.std.specs.declared.option.Option.{Option}
use Rattle.change_choices.specs.declared.class.Class.{Class}
use Rattle.change_detect.specs.declared.classes.Test.{Test}
use Rattle.change_detect.specs.declared.classes.Test.TheVariants.{Quick, Whole}
use Rattle.change_detect.specs.Classes.{unless_changed}

-- the class as a test tells it
abbrev pub told_by : Test → Option Class → Option Class
told_by Quick class = unless_changed class
told_by Whole class = class
