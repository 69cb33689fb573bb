-- What only joins code to the definitions: no claim rests on it.
pub mod GameSteps
pub mod LineSteps
pub mod PastDraws
