use Rattle.turn_relay_course.proofs.SleepLemmas.{none-begins, nothing-before, nothing-ever}
use Rattle.turn_relay_course.proofs.laws.course_sleeps_through_nothing.Goals as goal

pub returns : goal.returns
returns c = record {
  before = λ c time now is before. let none = nothing-before c.phase c time now is before in (none-begins _ now c none.begins, none.late);
  never = λ c now is. let none = nothing-ever c.phase c now is in (none-begins _ now c none.begins, none.late);
}
