-- What a reader must believe: integers, programs, what they do, runs, the search and what list answers, and the demand in words of runs alone. Then what list promises of its answer, and the plan list computed, which theorems tie to the demand.
pub mod Int
pub mod Program
pub mod Does
pub mod Run
pub mod Search
pub mod Demand
pub mod Promise
pub mod Plans
