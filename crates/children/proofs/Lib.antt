-- Laws of question 5.
mod ChildOrder
mod Named
