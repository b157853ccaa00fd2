-- The numbers of a person's values, and the person's cell.
use Rattle.std.specs.Prelude.{ℕ}
use Rattle.tda_demo.specs.declared.person.Kind.{Kind}
use Rattle.tda_demo.specs.declared.person.Kind.TheVariants.{House, Dorm, Prison}
use Rattle.tda_demo.specs.declared.person.Sex.{Sex}
use Rattle.tda_demo.specs.declared.person.Sex.TheVariants.{Female, Male}
use Rattle.tda_demo.specs.declared.person.Age.{Age}
use Rattle.tda_demo.specs.declared.person.Age.TheVariants.{Minor, Adult}
use Rattle.tda_demo.specs.declared.person.Person.{Person}
use Rattle.tda_demo.specs.Persons.{cell}

abbrev pub kind_number : Kind → ℕ
kind_number House = 0
kind_number Dorm = 1
kind_number Prison = 2

abbrev pub sex_number : Sex → ℕ
sex_number Female = 0
sex_number Male = 1

abbrev pub age_number : Age → ℕ
age_number Minor = 0
age_number Adult = 1

abbrev pub cell_of : Person → ℕ
cell_of p = cell (kind_number p.kind) (sex_number p.sex) (age_number p.age)
