-- The tasks of the caller: each is given once, and answered once, or late.
use Rattle.std.specs.Prelude.{ℕ, ◌+◌, ◌%◌, ◌^◌, ◌==◌, ◌&&◌, min, nat_lt, not, Bool, true, false, [], ◌∷◌, ◌++◌, find, fold, option_map, Option, Some, None}
use Rattle.turn_session_book.specs.First.{with_first, without_first}
use Rattle.turn_relay_tries.specs.TasksState.{TasksState}
use Rattle.turn_relay_tries.specs.declared.tasks.OpenTask.{OpenTask}
use Rattle.turn_relay_tries.specs.declared.tasks.Task.{Task}
use Rattle.turn_relay_tries.specs.declared.tasks.Work.{Work}

abbrev pub no_tasks : TasksState
no_tasks = record { rows = []; next = 1 }

abbrev pub new_task : Work → ℕ → ℕ → OpenTask
new_task work deadline number =
    record { task = record { number = number; work = work }; deadline = deadline; is_given = false }

-- a task has the next number, and stands behind the others
abbrev pub added : Work → ℕ → TasksState → TasksState
added work deadline s =
    record { rows = s.rows ++ new_task work deadline s.next ∷ []; next = (s.next + 1) % 2 ^ 64 }

-- ---- what is given

abbrev pub is_new : OpenTask → Bool
is_new row = not row.is_given

abbrev pub task_in : OpenTask → Task
task_in row = row.task

abbrev pub marked_given : OpenTask → OpenTask
marked_given row = record row { is_given = true }

-- the oldest that was not given yet
abbrev pub next_task : TasksState → Option Task
next_task s = option_map task_in (find is_new s.rows)

abbrev pub after_giving : TasksState → TasksState
after_giving s = record s { rows = with_first is_new marked_given s.rows }

-- ---- what is answered

-- what was not given cannot be answered
abbrev pub is_given_as : ℕ → OpenTask → Bool
is_given_as number row = row.is_given && (row.task.number == number)

abbrev pub work_in : OpenTask → Work
work_in row = row.task.work

abbrev pub work_of : ℕ → TasksState → Option Work
work_of number s = option_map work_in (find (is_given_as number) s.rows)

-- an answer is the end of a task
abbrev pub after_end : ℕ → TasksState → TasksState
after_end number s = record s { rows = without_first (is_given_as number) s.rows }

-- ---- what is late

abbrev pub is_late_at : ℕ → OpenTask → Bool
is_late_at now row = not (nat_lt now row.deadline)

abbrev pub late_task : ℕ → TasksState → Option Task
late_task now s = option_map task_in (find (is_late_at now) s.rows)

abbrev pub withdrawn : TasksState → TasksState
withdrawn s = record s { rows = [] }

abbrev pub sooner_of : Option ℕ → ℕ → Option ℕ
sooner_of None time = Some time
sooner_of (Some due) time = Some (min due time)

-- the least of the deadlines
abbrev pub deadline_of : TasksState → Option ℕ
deadline_of s = fold (λ due row. sooner_of due row.deadline) None s.rows
