-- What is known of a text that was written.
mod Written
